-- `forms::described::field_fits` meets its contract.
use Rattle.base.proofs.Tests.{tests}
use Rattle.base.specs.Pick.{pick}
use Rattle.base.specs.Bits.{has_bit}
use Rattle.forms.specs.Described.{field_fits}
use Rattle.forms.proofs.described.field_fits.Goals as goal

pub returns-then-fields-i-eq0 : goal.returns-then-fields-i-eq0
unfolding field_fits pick
returns-then-fields-i-eq0 c = search tests

pub returns : goal.returns
unfolding field_fits has_bit pick
returns c = search tests
