-- A turn writes the line of the instruction that is read; where none can be read, no words are left.
use Rattle.std.specs.Prelude.{None}
use Rattle.std.proofs.Common.{◌≡◌, ℕ, ◌+◌, ◌≤◌, List, [], ◌∷◌, length, refl, sym, ap₂, ◌∙◌, ⊎_elim, arith, rules}
use Rattle.std.proofs.lemmas.Bool.{cases_lt}
use mir.Syntax.{w32}
use mir.Val.{SFits, of_z, to_z}
use mir.ValLaws.{to_z-of_z}
use Rattle.text.specs.Text.{bytes}
use Rattle.text_decimals.specs.Memory.{over}
use Rattle.text_decimals.proofs.PlaceLaws.{Place, joined, begins, kept, room, room_as, next, next-as, finished}
use Rattle.instructions.specs.declared.Argument.{Argument}
use Rattle.instructions.specs.Kinds.{kind_at}
use Rattle.instructions.proofs.ColumnLaws.{one_place}
use Rattle.file_format.specs.Layout.{list}
use Rattle.words.specs.Words.{Word, words_of}
use Rattle.words.specs.Decoding.{decoded, items}
use Rattle.words.specs.Lines.{lines_from}
use Rattle.words.specs.Held.{head_of}
use Rattle.words.proofs.HeadLaws.{Read, size_small, head_read, head-fits, words-some, entries_none}
use Rattle.words_import.specs.HeldLines.{op_in, argument_in, line_in}
use Rattle.words_import.proofs.WritingLaws.{Writing, written-short, writing-starts, writing-reads, writing-room, writing-next, writing-ends}
use Rattle.words_import.proofs.put_lines.Goals as goal
use Rattle.words_import.proofs.put_lines.Goals.{In-Some}

-- ---- the instruction that is read

read : (c : In-Some) → Read c.loop-k.index c.in-Some.k c.in-Some.argument (words_of c.loop-k.rest.now)
read c = head_read _ _ _ _ (sym c.in-Some.ensures)

argument-fits : (c : In-Some) → SFits w32 c.in-Some.argument
argument-fits c = search rules

-- its ARG, as it is passed on
abbrev held : In-Some → Argument → List ℕ
held c takes = argument_in (list c.args.primitives.now) c.args.numbers.now c.loop-k.index (to_z w32 (of_z w32 c.in-Some.argument)) takes

module _ (c : In-Some) where
  -- the parts of its line: AT and OP, ARG, and the line feed
  abbrev parts : List (List ℕ)
  parts = op_in c.loop-k.count c.in-Some.k ∷ argument_in (list c.args.primitives.now) c.args.numbers.now c.loop-k.index c.in-Some.argument (kind_at c.in-Some.k).argument ∷ bytes "\n" ∷ []

  passed : {takes : Argument} → takes ≡ (kind_at c.in-Some.k).argument
      → held c takes ≡ argument_in (list c.args.primitives.now) c.args.numbers.now c.loop-k.index c.in-Some.argument (kind_at c.in-Some.k).argument
  passed e = ap₂ (λ z a. argument_in (list c.args.primitives.now) c.args.numbers.now c.loop-k.index z a) (to_z-of_z w32 c.in-Some.argument (argument-fits c)) e

  fits : c.loop-k.e + length (joined [] parts) ≤ length c.loop-k.out
  unfolding line_in
  fits =
      let r = writing-room c.loop-k.invariant (read c) in
      let y = written-short (list c.args.primitives.now) c.requires.2 c.requires.1 c.loop-k.count c.loop-k.index c.in-Some.k c.in-Some.argument (argument-fits c) r.0 (read c).known in
      omega (arith, y, r, c.requires.3, c.loop-k.invariant.short, c.loop-k.invariant.long)

-- the first n parts stand in o, up to e
abbrev At : ℕ → ℕ → List ℕ → Type 0
At = Place (λ (c : In-Some). c.loop-k.out) (λ c. c.loop-k.e) parts

abbrev w0 : (c : In-Some) → At 0 c.loop-k.e c.loop-k.out
w0 c = begins c (fits c)

-- ---- the turn

pub loop-k-init : goal.loop-k-init
loop-k-init c = writing-starts (list c.args.primitives.now) c.args.out.now c.args.at _ c.requires.0 (omega (arith, c.requires.3))

pub put_op-a-requires-clause-k_bound : goal.put_op-a-requires-clause-k_bound
put_op-a-requires-clause-k_bound c = let i = (goal.at.put_op-a-requires-clause-k_bound c).In-Some in ((read i).known, room (w0 i))

pub argument_in-takes-requires-clause-by_index : goal.argument_in-takes-requires-clause-by_index
argument_in-takes-requires-clause-by_index c =
    let i = (goal.at.argument_in-takes-requires-clause-by_index c).In-Some in
    λ j e. rw (one_place refl e) at (read i).known

pub put_argument-b-requires : goal.put_argument-b-requires
put_argument-b-requires c =
    let i = (goal.at.put_argument-b-requires c).In-Some in
    ((writing-room c.loop-k.invariant (read i)).1, room_as (next (w0 i) (c.put_op-a.ensures.value, c.put_op-a.ensures.out_after)) (passed i (c.argument_in-takes.ensures _ refl)))

pub put-e-requires : goal.put-e-requires
put-e-requires c =
    let i = (goal.at.put-e-requires c).In-Some in
    let w = next (w0 i) (c.put_op-a.ensures.value, c.put_op-a.ensures.out_after) in
    room (next-as w (passed i (c.argument_in-takes.ensures _ refl)) (c.put_argument-b.ensures.value, c.put_argument-b.ensures.out_after))

pub after-rest-requires : goal.after-rest-requires
after-rest-requires c = let i = (goal.at.after-rest-requires c).In-Some in ((read i).known, head-fits _ _ _ (sym c.in-Some.ensures))

pub size_of-index-requires : goal.size_of-index-requires
size_of-index-requires c = (read (goal.at.size_of-index-requires c).In-Some).known

pub overflow_add-index : goal.overflow_add-index
overflow_add-index c = omega (arith, writing-room c.loop-k.invariant (read (goal.at.overflow_add-index c).In-Some), size_small c.in-Some.k)

pub loop-k-smaller : goal.loop-k-smaller
loop-k-smaller c = omega (arith, size_small c.in-Some.k)

pub loop-k-preserved : goal.loop-k-preserved
unfolding line_in
loop-k-preserved c =
    let i = (goal.at.loop-k-preserved c).In-Some in
    let w1 = next (w0 i) (c.put_op-a.ensures.value, c.put_op-a.ensures.out_after) in
    let w2 = next-as w1 (passed i (c.argument_in-takes.ensures _ refl)) (c.put_argument-b.ensures.value, c.put_argument-b.ensures.out_after) in
    let w3 = next w2 (c.put-e.ensures.value, c.put-e.ensures.out_after) in
    writing-next c.loop-k.invariant (read i) c.args.numbers.now c.requires.1 c.requires.2 (argument-fits i) (finished w3) (kept w3) c.size_of-index.ensures c.after-rest.ensures.words

-- ---- the end

ended : {ps : List (List ℕ)} {former : List ℕ} {start : ℕ} {all : List Word} {out : List ℕ} {e i c : ℕ} (bs : List ℕ) → Writing ps former start all out e i c (words_of bs) → head_of (words_of bs) ≡ None
    → (e ≡ start + length (lines_from ps (items (decoded all)) 0 (items (decoded all)))) × (out ≡ over former start (lines_from ps (items (decoded all)) 0 (items (decoded all))))
ended bs w h = ⊎_elim (λ l. writing-reads w (words-some bs l) h) (λ l. writing-ends w (entries_none _ bs (omega arith))) (cases_lt 0 (length bs))

pub returns-clause-value : goal.returns-clause-value
returns-clause-value c = (ended _ c.loop-k.invariant (sym c.read_head.ensures ∙ c.in_default.is)).0

pub returns-clause-out_after : goal.returns-clause-out_after
returns-clause-out_after c = (ended _ c.loop-k.invariant (sym c.read_head.ensures ∙ c.in_default.is)).1
