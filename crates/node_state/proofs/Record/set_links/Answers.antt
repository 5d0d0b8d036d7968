-- `node_state::Record::set_links` meets its contract.
use mathlib.Core.Path.{refl, sym, ◌∙◌}
use Rattle.base.specs.Pick.{pick}
use native.Mathlib.Omega.{arith}
use Rattle.node_state.specs.Record.{set_links, linked}
use Rattle.node_state.proofs.Masks.{links_fit, fit_small, links_wide, record_links}
use Rattle.node_state.proofs.Record.set_links.Goals as goal

pub returns-then-is_bad : goal.returns-then-is_bad
unfolding set_links linked pick
returns-then-is_bad c = rw (sym c.is_bad.ensures ∙ c.if-is_bad.true) refl

pub returns-then-are_bad : goal.returns-then-are_bad
unfolding set_links linked pick
returns-then-are_bad c =
    rw (
      sym c.is_bad.ensures ∙ c.if-is_bad.false,
      (let f = record_links _ (sym c.is_bad.ensures ∙ c.if-is_bad.false) in sym (links_wide _ _ f.some f.most))
          ∙ sym c.are_bad.ensures ∙ c.if-are_bad.true,
    ) refl

pub overflow_cast-result : goal.overflow_cast-result
overflow_cast-result c =
    let args = c.args in
    omega (
      arith,
      fit_small args.self.interfaces args.mask (links_fit args.self.interfaces args.mask (sym c.are_bad.ensures ∙ c.if-are_bad.false)),
    )

pub returns : goal.returns
unfolding set_links linked pick
returns c =
    rw (
      sym c.is_bad.ensures ∙ c.if-is_bad.false,
      (let f = record_links _ (sym c.is_bad.ensures ∙ c.if-is_bad.false) in sym (links_wide _ _ f.some f.most))
          ∙ sym c.are_bad.ensures ∙ c.if-are_bad.false,
    ) refl
