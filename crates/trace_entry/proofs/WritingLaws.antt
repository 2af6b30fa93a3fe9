-- The loop that writes the lines of a run, apart from its code: what holds at each turn, and what each way out gives. Assumes nothing.
use Prim.Native.Nat.{ℕ, zero, suc, ◌+◌, ◌-◌, ◌≤◌, ◌<◌}
use mathlib.Core.Path.{◌≡◌, refl, sym, ap, ap₂, subst, ◌∙◌}
use mathlib.Core.Bool.{true, false, cond, not}
use mathlib.Core.List.{List, [], ◌∷◌, ◌++◌, append_assoc, append-nil}
use native.Mathlib.Omega.{arith}
use lib.IntN.{ℤ}
use lib.ListN.{length, length-append}
use borrow.Author.Tests.{not-true, not-false}
use Rattle.text_decimals.specs.Memory.{over}
use Rattle.text_decimals.proofs.MemoryLaws.{Wrote, wrote_none, wrote-more}
use Rattle.cells.specs.declared.Cell.{Cell}
use Rattle.machine.specs.Machine.{Code, reblock}
use Rattle.machine_state.specs.declared.State as states
use Rattle.machine_state.specs.HeldState.{WellFormed, whole}
use Rattle.bound_theory.specs.Run.{Run, begin, once}
use Rattle.replay_trace.specs.Traces.{Entry}
use Rattle.replay_steps.specs.Replay.{is_going}
use Rattle.replay_steps.specs.Held.{Stands}
use Rattle.trace_theory.specs.Trace.{recorded, recording, trace, entry_text, entries_text}
use Rattle.trace_entry.specs.declared.Recorded.{Recorded}
use Rattle.trace_entry.specs.Held.{Records, entry_of}

-- what holds whenever the loop's test is reached: what is made so far, and the lines of the `left` steps that the run may still make, are all
pub record Writing (c : Code) (ns : List ℕ) (answers : List ℤ) (former : List ℕ) (start : ℕ) (total : List ℕ)
    (out : List ℕ) (e : ℕ) (state : states.State) (blocks : List Cell) (taken left : ℕ) : Type 0 where
  pub made : List ℕ
  pub wrote : Wrote former start made e out
  pub long : length out ≡ length former
  pub run : Run
  pub stands : Stands ns answers taken state blocks false run
  pub formed : WellFormed state
  pub few : taken + left ≤ 1000000
  pub whole_is : made ++ entries_text (recording c left run) ≡ total

pub writing-starts : (c : Code) (ns : List ℕ) (answers : List ℤ) (former : List ℕ) (start : ℕ) (state : states.State) (blocks : List Cell) (n : ℕ)
    → start ≤ length former → WellFormed state → n ≤ 1000000 → {left : ℕ} → left ≡ n
    → Writing c ns answers former start (entries_text (trace c n (whole ns blocks state) answers)) former start state blocks 0 left
unfolding trace begin
writing-starts c ns answers former start state blocks n h formed few e = rw e
    (record {
      made = [];
      wrote = wrote_none former start h;
      long = refl;
      run = begin (whole ns blocks state) answers;
      stands = record { stands_at = refl; to_come = refl; is_stopped = refl };
      formed = formed;
      few = omega arith;
      whole_is = refl;
    })

recording-more : (c : Code) (n k : ℕ) (r : Run) → n ≡ suc k → recording c n r ≡ cond (is_going c r) (recorded c r ∷ recording c k (once c r)) []
unfolding recording
recording-more c n k r e = rw e refl

-- a run that has stopped makes no step more
recording-stopped : (c : Code) (n : ℕ) (r : Run) → r.stopped ≡ true → recording c n r ≡ []
unfolding recording is_going
recording-stopped c n r e = go n
  where
    go : (n : ℕ) → recording c n r ≡ []
    go zero = refl
    go (suc n) = rw e refl

module _ {c : Code} {ns : List ℕ} {answers : List ℤ} {former : List ℕ} {start : ℕ} {total out : List ℕ} {e : ℕ} {state : states.State} {blocks : List Cell} {taken left : ℕ}
    (i : Writing c ns answers former start total out e state blocks taken left) where
  -- all is written
  ended : {e' : ℕ} {out' : List ℕ} (made : List ℕ) → made ≡ total → Wrote former start made e' out' → (e' ≡ start + length total) × (out' ≡ over former start total)
  ended made q w = (w.ends ∙ ap (λ t. start + length t) q, w.holds ∙ ap (over former start) q)

  none_left : (es : List Entry) → recording c left i.run ≡ es → es ≡ [] → (e ≡ start + length total) × (out ≡ over former start total)
  unfolding entries_text
  none_left es p q = ended i.made (sym (append-nil i.made) ∙ ap (λ es. i.made ++ entries_text es) (sym (p ∙ q)) ∙ i.whole_is) i.wrote

  -- no step is left
  pub writing-ends : left ≤ 0 → (e ≡ start + length total) × (out ≡ over former start total)
  unfolding recording
  writing-ends h = let z : left ≡ 0 = omega arith in none_left _ (ap (λ n. recording c n i.run) z) refl

  module _ (some : 0 < left) (w : Recorded) (h : Records c ns answers taken state blocks w) where
    steps-are : recording c left i.run ≡ cond w.made (recorded c i.run ∷ recording c (left - 1) (once c i.run)) []
    steps-are = recording-more c left (left - 1) i.run (omega arith) ∙ ap (λ b. cond b (recorded c i.run ∷ recording c (left - 1) (once c i.run)) []) (sym (h.makes i.run i.stands))

    -- the step is not made
    pub writing-stuck : not w.made ≡ true → (e ≡ start + length total) × (out ≡ over former start total)
    writing-stuck n = none_left _ steps-are (ap (λ b. cond b (recorded c i.run ∷ recording c (left - 1) (once c i.run)) []) (not-true w.made n))

    -- it is made
    module _ (made : not w.made ≡ false) where
      abbrev written : List ℕ
      written = entry_text (entry_of state.at w.cycles)

      abbrev others : List ℕ
      others = entries_text (recording c (left - 1) (once c i.run))

      is_made : w.made ≡ true
      is_made = not-false w.made made

      recorded-is : recorded c i.run ≡ entry_of state.at w.cycles
      unfolding whole reblock
      recorded-is = ap₂ (λ a n. entry_of a n) (ap (λ t. t.at) i.stands.stands_at) (sym (h.costs i.run i.stands is_made))

      first-written : entries_text (recording c left i.run) ≡ written ++ others
      unfolding entries_text
      first-written =
          ap entries_text (steps-are ∙ ap (λ b. cond b (recorded c i.run ∷ recording c (left - 1) (once c i.run)) []) is_made)
          ∙ ap (λ x. entry_text x ++ others) recorded-is

      all-is : (i.made ++ written) ++ others ≡ total
      all-is = append_assoc i.made written others ∙ ap (λ t. i.made ++ t) (sym first-written) ∙ i.whole_is

      pub writing-room : start + length total ≤ length former → e + length written ≤ length out
      writing-room room =
          let l : length i.made + length written + length others ≡ length total = ap (λ n. n + length others) (sym (length-append i.made written)) ∙ sym (length-append (i.made ++ written) others) ∙ ap length all-is in
          omega (arith, i.long, i.wrote.ends)

      module _ {e' : ℕ} {out' : List ℕ} (put : (e' ≡ e + length written) × (out' ≡ over out e written)) where
        -- STOP was made
        pub writing-stops : w.stopped ≡ true → (e' ≡ start + length total) × (out' ≡ over former start total)
        unfolding entries_text
        writing-stops q =
            let z : others ≡ [] = ap entries_text (recording-stopped c (left - 1) (once c i.run) ((h.goes_on i.run i.stands is_made).is_stopped ∙ q)) in
            ended (i.made ++ written) (sym (append-nil (i.made ++ written)) ∙ ap (λ t. (i.made ++ written) ++ t) (sym z) ∙ all-is) (wrote-more i.wrote written put)

        pub writing-next : w.stopped ≡ false → length out' ≡ length out → {left' : ℕ} → left' ≡ left - 1 → Writing c ns answers former start total out' e' w.state w.blocks w.taken left'
        writing-next q l n = rw n
            (record {
              made = i.made ++ written;
              wrote = wrote-more i.wrote written put;
              long = l ∙ i.long;
              run = once c i.run;
              stands = subst (λ b. Stands ns answers w.taken w.state w.blocks b (once c i.run)) q (h.goes_on i.run i.stands is_made);
              formed = h.formed;
              few = omega (arith, h.few, i.few);
              whole_is = all-is;
            })
