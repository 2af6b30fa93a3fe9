-- The loop that writes the lines of a walk, apart from its code: what holds at each turn, and what each way out gives. Assumes nothing.
use Prim.Native.Nat.{ℕ, suc, ◌+◌, ◌-◌, ◌*◌, ◌≤◌, ◌<◌}
use mathlib.Core.Path.{◌≡◌, refl, sym, ap, ◌∙◌}
use mathlib.Core.Bool.{Bool, true, false, cond, not, false≢true}
use mathlib.Core.List.{List, [], ◌∷◌, ◌++◌, append_assoc, append-nil}
use native.Mathlib.Omega.{arith}
use lib.ListN.{length, length-append}
use Rattle.text.specs.Text.{Line}
use Rattle.text_decimals.specs.Memory.{over}
use Rattle.text_decimals.proofs.MemoryLaws.{Wrote, wrote_none, wrote-more}
use Rattle.cells.specs.declared.Cell.{Cell}
use Rattle.cells.specs.Cells.{unknown}
use Rattle.machine.specs.Machine.{State, Code, height, reblock, step}
use Rattle.machine_state.specs.declared.State as states
use Rattle.machine_state.specs.HeldState.{WellFormed, whole}
use Rattle.machine_state.proofs.StateLaws.{height-is}
use Rattle.bound_theory.specs.Traces.{move}
use Rattle.report.specs.HeldPath.{decode}
use Rattle.explain_walk.specs.Walk.{onward, follow}
use Rattle.explain_walk.specs.declared.Walked.{Walked}
use Rattle.explain_walk.specs.Held.{price_of, moves_by, StepsOn}
use Rattle.explain_lines.specs.Listing.{entries_from, shown_lines, code_text, entry_text, listing}

-- a condition by its negation
negated : (b : Bool) → not b ≡ true → b ≡ false
negated true e = absurd (false≢true e)
negated false e = refl

affirmed : (b : Bool) → not b ≡ false → b ≡ true
affirmed true e = refl
affirmed false e = absurd (false≢true (sym e))

-- the lines that are left
abbrev remaining : Code → List ℕ → List Line → ℕ → states.State → List Cell → ℕ → ℕ → ℕ → ℕ → List ℕ
remaining c ns ls first state blocks rest spent sum left = listing ls first (entries_from spent sum (follow (step c unknown) left (decode rest) (whole ns blocks state)))

-- what holds whenever the loop's test is reached
pub record Writing (c : Code) (ns : List ℕ) (ls : List Line) (first : ℕ) (former : List ℕ) (start : ℕ) (total : List ℕ)
    (out : List ℕ) (e : ℕ) (state : states.State) (blocks : List Cell) (rest spent sum left : ℕ) : Type 0 where
  pub made : List ℕ
  pub wrote : Wrote former start made e out
  pub long : length out ≡ length former
  pub formed : WellFormed state
  pub cycles : spent + 8589934592 * left ≤ 8796093022208
  pub words : sum + 4294967296 * left ≤ 4398046511104
  pub whole_is : made ++ remaining c ns ls first state blocks rest spent sum left ≡ total

pub writing-starts : (c : Code) (ns : List ℕ) (ls : List Line) (first : ℕ) (former : List ℕ) (start : ℕ) (state : states.State) (blocks : List Cell) (path n : ℕ)
    → start ≤ length former → WellFormed state → n ≤ 1024
    → Writing c ns ls first former start (listing ls first (shown_lines (follow (step c unknown) n (decode path) (whole ns blocks state)))) former start state blocks path 0 0 n
unfolding shown_lines
writing-starts c ns ls first former start state blocks path n h formed few = record {
  made = [];
  wrote = wrote_none former start h;
  long = refl;
  formed = formed;
  cycles = omega arith;
  words = omega arith;
  whole_is = refl;
}

follow-more : (c : Code) (n k rest : ℕ) (s : State) → n ≡ suc k → follow (step c unknown) n (decode rest) s ≡ onward (follow (step c unknown) k) (decode rest) s (step c unknown s)
unfolding follow
follow-more c n k rest s e = rw e refl

module _ {c : Code} {ns : List ℕ} {ls : List Line} {first : ℕ} {former : List ℕ} {start : ℕ} {total out : List ℕ} {e : ℕ} {state : states.State} {blocks : List Cell} {rest spent sum left : ℕ}
    (i : Writing c ns ls first former start total out e state blocks rest spent sum left) where
  -- all is written
  ended : {e' : ℕ} {out' : List ℕ} (made : List ℕ) → made ≡ total → Wrote former start made e' out' → (e' ≡ start + length total) × (out' ≡ over former start total)
  ended made q w = (w.ends ∙ ap (λ t. start + length t) q, w.holds ∙ ap (over former start) q)

  -- no move is left
  pub writing-ends : left ≤ 0 → (e ≡ start + length total) × (out ≡ over former start total)
  unfolding follow entries_from listing
  writing-ends h =
      let z : left ≡ 0 = omega arith in
      ended i.made (sym (append-nil i.made) ∙ ap (λ n. i.made ++ remaining c ns ls first state blocks rest spent sum n) (sym z) ∙ i.whole_is) i.wrote

  module _ (some : 0 < left) (w : Walked) (h : StepsOn c ns rest state blocks w) where
    moves-are : follow (step c unknown) left (decode rest) (whole ns blocks state) ≡ moves_by ns w (whole ns blocks state) (follow (step c unknown) (left - 1))
    moves-are = follow-more c left (left - 1) rest (whole ns blocks state) (omega arith) ∙ h.moves (follow (step c unknown) (left - 1))

    -- the step is not made
    pub writing-stuck : not w.made ≡ true → (e ≡ start + length total) × (out ≡ over former start total)
    unfolding moves_by entries_from listing
    writing-stuck n =
        let m : follow (step c unknown) left (decode rest) (whole ns blocks state) ≡ [] = moves-are ∙ ap (λ b. cond b (move (whole ns blocks state) (price_of w) (decode w.way) ∷ cond w.stops [] (follow (step c unknown) (left - 1) (decode w.rest) (whole ns w.blocks w.state))) []) (negated w.made n) in
        ended i.made (sym (append-nil i.made) ∙ ap (λ ms. i.made ++ listing ls first (entries_from spent sum ms)) (sym m) ∙ i.whole_is) i.wrote

    -- it is made
    module _ (made : not w.made ≡ false) (line : List ℕ) (line-is : line ≡ code_text ls first state.at) where
      abbrev written : List ℕ
      written = entry_text line (spent + w.cycles) (sum + w.words) (64 - state.free) (decode w.way)

      abbrev others : List ℕ
      others = listing ls first (entries_from (spent + w.cycles) (sum + w.words) (cond w.stops [] (follow (step c unknown) (left - 1) (decode w.rest) (whole ns w.blocks w.state))))

      height-told : height (whole ns blocks state) ≡ 64 - state.free
      unfolding height whole reblock
      height-told = height-is state i.formed

      first-written : remaining c ns ls first state blocks rest spent sum left ≡ written ++ others
      unfolding moves_by entries_from listing whole reblock
      first-written =
          ap (λ ms. listing ls first (entries_from spent sum ms)) (moves-are ∙ ap (λ b. cond b (move (whole ns blocks state) (price_of w) (decode w.way) ∷ cond w.stops [] (follow (step c unknown) (left - 1) (decode w.rest) (whole ns w.blocks w.state))) []) (affirmed w.made made))
          ∙ ap (λ d. entry_text (code_text ls first state.at) (spent + w.cycles) (sum + w.words) d (decode w.way) ++ others) height-told
          ∙ ap (λ t. entry_text t (spent + w.cycles) (sum + w.words) (64 - state.free) (decode w.way) ++ others) (sym line-is)

      all-is : (i.made ++ written) ++ others ≡ total
      all-is = append_assoc i.made written others ∙ ap (λ t. i.made ++ t) (sym first-written) ∙ i.whole_is

      pub writing-room : start + length total ≤ length former → e + length written ≤ length out
      writing-room room =
          let l : length i.made + length written + length others ≡ length total = ap (λ n. n + length others) (sym (length-append i.made written)) ∙ sym (length-append (i.made ++ written) others) ∙ ap length all-is in
          omega (arith, i.long, i.wrote.ends)

      module _ {e' : ℕ} {out' : List ℕ} (put : (e' ≡ e + length written) × (out' ≡ over out e written)) where
        pub writing-stops : w.stops ≡ true → (e' ≡ start + length total) × (out' ≡ over former start total)
        unfolding entries_from listing
        writing-stops q =
            let z : others ≡ [] = ap (λ b. listing ls first (entries_from (spent + w.cycles) (sum + w.words) (cond b [] (follow (step c unknown) (left - 1) (decode w.rest) (whole ns w.blocks w.state))))) q in
            ended (i.made ++ written) (sym (append-nil (i.made ++ written)) ∙ ap (λ t. (i.made ++ written) ++ t) (sym z) ∙ all-is) (wrote-more i.wrote written put)

        pub writing-next : w.stops ≡ false → length out' ≡ length out
            → Writing c ns ls first former start total out' e' w.state w.blocks w.rest (spent + w.cycles) (sum + w.words) (left - 1)
        writing-next q l = record {
          made = i.made ++ written;
          wrote = wrote-more i.wrote written put;
          long = l ∙ i.long;
          formed = h.formed;
          cycles = omega (arith, h.cycles, i.cycles);
          words = omega (arith, h.words, i.words);
          whole_is =
              ap (λ t. (i.made ++ written) ++ t) (ap (λ b. listing ls first (entries_from (spent + w.cycles) (sum + w.words) (cond b [] (follow (step c unknown) (left - 1) (decode w.rest) (whole ns w.blocks w.state))))) (sym q))
              ∙ all-is;
        }
