-- What a word says follows from the number that is held of it.
use Rattle.std.specs.Prelude.{Option, Some}
use Rattle.std.proofs.Common.{◌≡◌, ℤ, ap, ◌∙◌, w64, of_z, to_z}
use mir.ValLaws.{to_z-of_z}
use Rattle.text_decimals.specs.HeldMagnitude.{clamped}
use Rattle.console.proofs.GivenLaws.{clamped-fits, given-none, given-low, given-high, given-held}
use Rattle.console.proofs.number_of.Goals as goal
use Rattle.console.proofs.number_of.Goals.{then-z-lt0-via-then-z-lt0, then-z-lt0-via-else-z-lt0+then-z-gt4294967295}

-- the number that is held, as the code compares it
held : (m : Option ℤ) (z : ℤ) → Some z ≡ clamped m → Some (to_z w64 (of_z w64 z)) ≡ clamped m
held m z e = ap Some (to_z-of_z w64 z (clamped-fits m z e)) ∙ e

pub returns-in_default : goal.returns-in_default
returns-in_default c = given-none _ c.in_default.ensures

pub returns-then-z-lt0 : goal.returns-then-z-lt0
returns-then-z-lt0 c =
    let h = held _ _ c.in-Some.ensures in
    elim c.then-z-lt0.branch [ then-z-lt0-via-then-z-lt0 w ↦ given-low _ _ h w.if-z-lt0.true | then-z-lt0-via-else-z-lt0+then-z-gt4294967295 w ↦ given-high _ _ h w.if-z-gt4294967295.true ]

pub returns : goal.returns
returns c = (given-held _ _ (held _ _ c.in-Some.ensures) c.if-z-lt0.false c.if-z-gt4294967295.false).is
