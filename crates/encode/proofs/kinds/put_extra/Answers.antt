-- `encode::kinds::put_extra` meets its contract.
use Rattle.rfc8990.specs.Encoding.{maybe_obj}
use Rattle.description.specs.Meaning.{extra_of}
use Rattle.encode.proofs.Puts.{still}
use Rattle.encode.proofs.kinds.put_extra.Goals as goal

pub returns-in-None : goal.returns-in-None
unfolding maybe_obj extra_of
returns-in-None c = rw c.in-None.is (still _ _)

pub returns-in-Some : goal.returns-in-Some
unfolding maybe_obj extra_of
returns-in-Some c = rw c.in-Some.is c.put_given.ensures
