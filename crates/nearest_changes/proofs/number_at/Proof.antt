-- `nearest_changes::number_at` meets its contract. Assumes nothing.
use Prim.Native.Nat.{◌<◌}
use mathlib.Core.Path.{◌≡◌, sym, ap, ◌∙◌}
use native.Mathlib.Omega.{arith}
use lib.ListN.{length}
use Rattle.cells.specs.Try.{done}
use Rattle.cells.specs.Cells.{handle}
use Rattle.machine_state.specs.HeldProgram.{sizes_of}
use Rattle.machine_state.specs.HeldState.{Fits, slot, whole}
use Rattle.machine_state.proofs.ProgramLaws.{fits_all}
use Rattle.machine_state.proofs.Stack.{length-images}
use Rattle.nearest_changes.specs.Changes.{number_at}
use Rattle.nearest_changes.proofs.CellLaws.{number-in, number-out, accu-there, entry-there, entry-lacks, field-there, field-lacks, slot-in}
use borrow.Author.Rules.{rules}
use Rattle.nearest_changes.proofs.number_at.Statement.{statement}
use Rattle.nearest_changes.proofs.number_at.Tie as tie

places : (s : tie.Start) → length s.args.blocks ≡ 128
places s = search (rules, length-images)

fits : (s : tie.Start) → Fits (sizes_of s.args.code.now) s.args.blocks
fits s = fits_all s.args.code.now s.requires.0 s.args.blocks (places s)

enum_told : tie.Need-enum_told-1
enum_told c = search rules

returns : tie.Need-returns-then-free-n
returns c =
    let s = c in
    let w = whole (sizes_of s.args.code.now) s.args.blocks s.args.start in
    sym (ap (λ q. number_at q w) c.in-Entry.is ∙ number-out _ w (entry-lacks _ _ _ s.requires.1 _ c.if-free-n.true))

returns-2 : tie.Need-returns-in_default
returns-2 c =
    let at-p2 = c in
    let s = at-p2 in
    let w = whole (sizes_of s.args.code.now) s.args.blocks s.args.start in
    let e = ap (λ h. slot (sizes_of s.args.code.now) h at-p2.in-Field.n) (sym c.handle.ensures) ∙ sym c.slot_of-field.ensures ∙ c.in_default.is in
    sym (ap (λ q. number_at q w) at-p2.in-Field.is ∙ number-out _ w (field-lacks _ _ _ (fits s.before.before.before.before) _ _ e))

-- the slot that was found
found : (c : tie.In-Some)
    → let at-p2 = c in
    slot (sizes_of at-p2.args.code.now) (handle at-p2.in-Field.k) at-p2.in-Field.n ≡ done c.in-Some.j
found c =
    let at-handle = c in
    let at-p2 = at-handle in
    let start = at-p2 in
    ap (λ h. slot (sizes_of start.args.code.now) h at-p2.in-Field.n) (sym at-handle.handle.ensures) ∙ sym c.slot_of-field.ensures ∙ c.in-Some.is

within : (c : tie.In-Some) → c.in-Some.j < 128
within c =
    let c1 = c in
    let s = c1 in
    omega (arith, slot-in _ s.args.blocks s.args.start (fits s.before.before.before.before) _ _ _ (found c), places s.before.before.before.before)

mul-single-of-2 : tie.Need-offset_bounds-blocks-j
mul-single-of-2 c = omega (arith, within c)

array-copy-out-single-of : tie.Need-bounds-blocks-j
array-copy-out-single-of c = within c

returns-3 : tie.Need-returns-in-Accu
returns-3 c =
    let s = c in
    let w = whole (sizes_of s.args.code.now) s.args.blocks s.args.start in
    c.single_of.ensures ∙ sym (ap (λ q. number_at q w) c.in-Accu.is ∙ number-in _ w _ (accu-there _ _ _))

returns-4 : tie.Need-returns-else-free-n
returns-4 c =
    let s = c in
    let w = whole (sizes_of s.args.code.now) s.args.blocks s.args.start in
    c.single_of-in-Entry.ensures ∙ sym (ap (λ q. number_at q w) c.in-Entry.is ∙ number-in _ w _ (entry-there _ _ _ s.requires.1 _ _ (omega (arith, c.if-free-n.false))))

returns-5 : tie.Need-returns-in-Some
returns-5 c =
    let at-p2 = c in
    let s = at-p2 in
    let w = whole (sizes_of s.args.code.now) s.args.blocks s.args.start in
    c.single_of-in-Field.ensures ∙ sym (ap (λ q. number_at q w) at-p2.in-Field.is ∙ number-in _ w _ (field-there _ _ _ (fits s.before.before.before.before.before.before) _ _ _ _ (found c.before.before)))

pub number_at_spec : {M : Type 1} → statement M
number_at_spec =
    tie.close
    (tie.spec
    enum_told
    (λ c κs. search rules)
    (λ c. search rules)
    (λ c. search rules)
    returns
    (λ c. search rules)
    (λ c. search rules)
    (λ c. search rules)
    (λ c κs. search rules)
    (λ c. search rules)
    (λ c κs. search rules)
    (λ c κs. search rules)
    (λ c. search rules)
    (λ c. search rules)
    returns-2
    mul-single-of-2
    array-copy-out-single-of
    (λ c κs. search rules)
    returns-3
    returns-4
    returns-5)
