-- The replay's loop, apart from its code: what holds at each turn, and what each way out gives. Assumes nothing.
use Prim.Native.Nat.{ℕ, suc, ◌+◌, ◌-◌, ◌≤◌, ◌<◌}
use mathlib.Core.Path.{◌≡◌, refl, sym, ap, ap₂, subst, ◌∙◌}
use mathlib.Core.Bool.{true, false, cond}
use mathlib.Core.List.{List, [], ◌∷◌, map}
use native.Mathlib.Omega.{arith}
use native.Mathlib.Numerals.{add-one}
use lib.IntN.{ℤ}
use lib.ListN.{length, get_or, drop, length-drop}
use Rattle.text.specs.Text.{is_empty, Line, no_line, lines}
use Rattle.text.proofs.LineLaws.{lines_none, lines-first}
use Rattle.cells.specs.declared.Cell.{Cell}
use Rattle.machine.specs.Machine.{Code}
use Rattle.machine_state.specs.declared.State as states
use Rattle.machine_state.specs.HeldState.{WellFormed, whole}
use Rattle.bound_theory.specs.Run.{Run, begin, once}
use Rattle.replay_trace.specs.Traces.{Entry, entry_of, entries}
use Rattle.replay_steps.specs.declared.Held.{Held}
use Rattle.replay_steps.specs.Replay.{is_going, agrees, Outcome, agreed, differed, replay_from, replay}
use Rattle.replay_steps.specs.Held.{Stands, Holds}

-- the lines that are left, as recorded steps
abbrev pub left : List ℕ → List Entry
left rest = map (λ l. entry_of l.text) (lines rest)

-- what holds whenever the loop's test is reached: the lines left, from number n on, decide what the replay says
pub record Following (c : Code) (ns : List ℕ) (answers : List ℤ) (total : Outcome) (taken : ℕ) (state : states.State) (blocks : List Cell) (rest : List ℕ) (n : ℕ) : Type 0 where
  pub run : Run
  pub stands : Stands ns answers taken state blocks false run
  pub formed : WellFormed state
  pub few : taken ≤ n
  pub near : n + length (lines rest) ≤ 4099
  pub whole_is : replay_from c n run (left rest) ≡ total

pub begins : (c : Code) (ns : List ℕ) (answers : List ℤ) (s : states.State) (fs : List Cell) (trace rest : List ℕ) → WellFormed s → length (lines trace) ≤ 4097
    → lines rest ≡ drop 1 (lines trace) → Following c ns answers (replay c (whole ns fs s) answers (entries trace)) 0 s fs rest 2
unfolding replay begin entries
begins c ns answers s fs trace rest formed few e =
    let l : length (lines rest) ≡ length (lines trace) - 1 = ap length e ∙ length-drop 1 (lines trace) in
    record {
      run = begin (whole ns fs s) answers;
      stands = record { stands_at = refl; to_come = refl; is_stopped = refl };
      formed = formed;
      few = omega arith;
      near = omega arith;
      whole_is = ap (λ ls. replay_from c 2 (begin (whole ns fs s) answers) (map (λ l. entry_of l.text) ls)) e;
    }

module _ {c : Code} {ns : List ℕ} {answers : List ℤ} {total : Outcome} {taken : ℕ} {state : states.State} {blocks : List Cell} {rest : List ℕ} {n : ℕ}
    (i : Following c ns answers total taken state blocks rest n) where
  -- no line is left
  pub ends : length rest ≤ 0 → agreed ≡ total
  unfolding replay_from
  ends h = ap (λ ls. replay_from c n i.run (map (λ l. entry_of l.text) ls)) (sym (lines_none rest h)) ∙ i.whole_is

  -- the first line left, as it was read
  module _ (some : 0 < length rest) (w : List ℕ) (first : w ≡ (get_or (lines rest) 0 no_line).text) (at spent : ℕ) (at-is : at ≡ (entry_of w).at) (spent-is : spent ≡ (entry_of w).cycles)
      (h : Held) (holds : Holds c ns answers taken state blocks at spent h) where
    entry-is : entry_of (get_or (lines rest) 0 no_line).text ≡ record { at = at; cycles = spent }
    entry-is = ap entry_of (sym first) ∙ ap₂ (λ a b. record { at = a; cycles = b }) (sym at-is) (sym spent-is)

    agrees-is : agrees c i.run (entry_of (get_or (lines rest) 0 no_line).text) ≡ h.agrees
    agrees-is = ap (agrees c i.run) entry-is ∙ sym (holds.says i.run i.stands)

    turn : replay_from c n i.run (left rest) ≡ cond h.agrees (replay_from c (suc n) (once c i.run) (map (λ l. entry_of l.text) (drop 1 (lines rest)))) (differed n)
    unfolding replay_from
    turn =
        ap (λ ls. replay_from c n i.run (map (λ l. entry_of l.text) ls)) (lines-first rest some)
        ∙ ap (λ b. cond b (replay_from c (suc n) (once c i.run) (map (λ l. entry_of l.text) (drop 1 (lines rest)))) (differed n)) agrees-is

    pub differs : h.agrees ≡ false → differed n ≡ total
    differs e = sym (turn ∙ ap (λ b. cond b (replay_from c (suc n) (once c i.run) (map (λ l. entry_of l.text) (drop 1 (lines rest)))) (differed n)) e) ∙ i.whole_is

    module _ (yes : h.agrees ≡ true) (more : List ℕ) (next : lines more ≡ drop 1 (lines rest)) where
      goes : replay_from c (suc n) (once c i.run) (left more) ≡ total
      goes =
          ap (λ ls. replay_from c (suc n) (once c i.run) (map (λ l. entry_of l.text) ls)) next
          ∙ sym (turn ∙ ap (λ b. cond b (replay_from c (suc n) (once c i.run) (map (λ l. entry_of l.text) (drop 1 (lines rest)))) (differed n)) yes)
          ∙ i.whole_is

      -- STOP was made
      pub stops : h.stopped ≡ true → cond (is_empty (lines more)) agreed (differed (suc n)) ≡ total
      unfolding replay_from agrees is_going
      stops e = over (lines more) ((holds.goes_on i.run i.stands yes).is_stopped ∙ e) ∙ goes
        where
          over : (ls : List Line) → (once c i.run).stopped ≡ true → cond (is_empty ls) agreed (differed (suc n)) ≡ replay_from c (suc n) (once c i.run) (map (λ l. entry_of l.text) ls)
          over [] s = refl
          over (l ∷ ls) s = rw s refl

      pub goes_on : h.stopped ≡ false → Following c ns answers total h.taken h.state h.blocks more (n + 1)
      goes_on e =
          let l : length (lines more) ≡ length (lines rest) - 1 = ap length next ∙ length-drop 1 (lines rest) in
          let k : 1 ≤ length (lines rest) = subst (λ ls. 1 ≤ length ls) (sym (lines-first rest some)) (omega arith) in
          record {
            run = once c i.run;
            stands = subst (λ b. Stands ns answers h.taken h.state h.blocks b (once c i.run)) e (holds.goes_on i.run i.stands yes);
            formed = holds.formed;
            few = omega (arith, holds.few, i.few);
            near = omega (arith, i.near);
            whole_is = rw (add-one n) goes;
          }
