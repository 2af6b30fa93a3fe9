-- Laws of the way back: each move that is kept leads to the goal of the one before it. Assumes nothing.
use Prim.Native.Nat.{ℕ, zero, suc, ◌+◌, ◌-◌, ◌≤◌, ◌<◌}
use mathlib.Core.Path.{◌≡◌, refl, sym, ap, ap₂, subst, ◌∙◌}
use mathlib.Core.Bool.{Bool, true, false, cond}
use mathlib.Core.List.{List, [], ◌∷◌}
use native.Mathlib.Omega.{arith}
use lib.Dec.{eqb}
use lib.ListN.{length, drop, set, length-set}
use borrow.Author.Tests.{eqb-true, eqb-false, ne_eqb}
use Rattle.bound_theory.specs.Traces.{Move}
use Rattle.bound_figures.proofs.PartLaws.{encode-positive}
use Rattle.merge_way.specs.Way.{Goal, out, to, Kept, nothing, kept, Origins, way_back}
use Rattle.merge_origins.specs.HeldOrigins.{last_at, IsLast, Holds, Keeps}
use Rattle.explain_merge_walk.specs.HeldLasts.{Traced, Lists, none, more}

-- the goal of a number: the address of a row, or STOP
unfoldable pub goal_of : ℕ → ℕ → Goal
goal_of first g = cond (eqb g 1025) out (to (first + g))

goal-row : (first g : ℕ) → g < 1025 → goal_of first g ≡ to (first + g)
unfolding goal_of
goal-row first g h = ap (λ (t : Bool). cond t out (to (first + g))) (ne_eqb g 1025 (λ e. omega arith))

goal-stop : (first : ℕ) → goal_of first 1025 ≡ out
unfolding goal_of
goal-stop first = refl

holds_at : (first : ℕ) (ks : List ℕ) (o : Origins) → Keeps first ks o → (g : ℕ) → g < 1026 → Holds first (last_at ks g) (o (goal_of first g))
unfolding goal_of
holds_at first ks o k g h = go (eqb g 1025) refl
  where
    go : (t : Bool) → eqb g 1025 ≡ t → Holds first (last_at ks g) (o (cond t out (to (first + g))))
    go true e = rw (eqb-true g 1025 e) k.stop
    go false e = let n = eqb-false g 1025 e in k.rows g (below g h n)
      where
        below : (g : ℕ) → g < 1026 → (g ≡ 1025 → ⊥) → g < 1025
        below g h n = omega (arith, n)

-- what is kept is a move
pub record Moving (first : ℕ) (ks : List ℕ) (o : Origins) (g : ℕ) : Type 0 where
  pub spent : ℕ
  pub move : Move
  pub keeps : o (goal_of first g) ≡ kept spent move
  pub is : IsLast first (last_at ks g) spent move

pub moving : (first : ℕ) (ks : List ℕ) (o : Origins) → Keeps first ks o → (g : ℕ) → g < 1026 → ((last_at ks g).way ≡ 0 → ⊥) → Moving first ks o g
moving first ks o k g h n = go (o (goal_of first g)) refl (holds_at first ks o k g h)
  where
    go : (m : Kept) → o (goal_of first g) ≡ m → Holds first (last_at ks g) m → Moving first ks o g
    go nothing e i = absurd (n i)
    go (kept x m) e i = record { spent = x; move = m; keeps = e; is = i }

-- or there is none
resting : (first : ℕ) (ks : List ℕ) (o : Origins) → Keeps first ks o → (g : ℕ) → g < 1026 → (last_at ks g).way ≡ 0 → o (goal_of first g) ≡ nothing
resting first ks o k g h z = go (o (goal_of first g)) refl (holds_at first ks o k g h)
  where
    go : (m : Kept) → o (goal_of first g) ≡ m → Holds first (last_at ks g) m → o (goal_of first g) ≡ nothing
    go nothing e i = e
    go (kept x m) e i = absurd (omega (arith, i.way, encode-positive m.decision))

-- ---- the loop

-- the goals from `place` on are those of the moves so far, and what is left of the way back begins at `goal`
pub record Backing (ks : List ℕ) (most : ℕ) (gs : List ℕ) (place goal left : ℕ) : Type 0 where
  pub long : length gs ≡ 1025
  pub room : left ≤ place
  pub within : place ≤ 1025
  pub few : goal < 1026
  pub lists : (first : ℕ) (o : Origins) → Keeps first ks o → (ms : List Move) × Lists first ks (drop place gs) ms × (way_back o left (o (goal_of first goal)) ms ≡ way_back o most (o out) [])

pub drop-none : (gs : List ℕ) (i : ℕ) → length gs ≤ i → drop i gs ≡ []
drop-none [] zero h = refl
drop-none [] (suc i) h = refl
drop-none (g ∷ gs) zero h = absurd (omega arith)
drop-none (g ∷ gs) (suc i) h = drop-none gs i (omega arith)

pub backing-starts : (ks : List ℕ) (most left : ℕ) (gs : List ℕ) → left ≡ most → length gs ≡ 1025 → most ≤ 1025 → Backing ks most gs 1025 1025 left
backing-starts ks most left gs all l h = record {
  long = l;
  room = omega arith;
  within = omega arith;
  few = omega arith;
  lists = λ first o k. ([], rw (drop-none gs 1025 (omega arith)) none, ap₂ (λ (n : ℕ) (g : Goal). way_back o n (o g) []) all (goal-stop first));
}

module _ {ks : List ℕ} {most : ℕ} {gs : List ℕ} {place goal left : ℕ} (i : Backing ks most gs place goal left) where
  abbrev Found : ℕ → List ℕ → Type 0
  Found r gs = (first : ℕ) (o : Origins) → Keeps first ks o → Lists first ks (drop r gs) (way_back o most (o out) [])

  -- no move is left
  pub backing-ends : left ≤ 0 → Found place gs
  unfolding way_back
  backing-ends h first o k =
      let (ms, l, e) = i.lists first o k in
      let z : left ≡ 0 = omega arith in
      subst (Lists first ks (drop place gs)) (ap (λ (n : ℕ). way_back o n (o (goal_of first goal)) ms) (sym z) ∙ e) l

  -- nothing is kept
  pub backing-rests : 0 < left → (last_at ks goal).way ≡ 0 → Found place gs
  unfolding way_back
  backing-rests h z first o k =
      let (ms, l, e) = i.lists first o k in
      let n : left ≡ suc (left - 1) = omega arith in
      subst (Lists first ks (drop place gs)) (sym (ap₂ (λ (n : ℕ) (m : Kept). way_back o n m ms) n (resting first ks o k goal i.few z)) ∙ e) l

  -- one goal more
  first-put : (p : ℕ) → p < length gs → drop p (set gs p goal) ≡ goal ∷ drop (suc p) gs
  first-put p h = go p gs h
    where
      go : (p : ℕ) (gs : List ℕ) → p < length gs → drop p (set gs p goal) ≡ goal ∷ drop (suc p) gs
      go p [] h = absurd (omega arith)
      go zero (g ∷ gs) h = refl
      go (suc p) (g ∷ gs) h = go p gs (omega arith)

  pub backing-next : Traced ks → 0 < left → ((last_at ks goal).way ≡ 0 → ⊥) → Backing ks most (set gs (place - 1) goal) (place - 1) (last_at ks goal).row (left - 1)
  unfolding way_back
  backing-next t h n =
      let r = i.room in
      let w = i.within in
      let row = t goal i.few n in record {
        long = length-set gs (place - 1) goal ∙ i.long;
        room = omega arith;
        within = omega arith;
        few = omega (arith, row);
        lists = λ first o k.
            let (ms, l, e) = i.lists first o k in
            let v = moving first ks o k goal i.few n in
            let p : suc (place - 1) ≡ place = omega arith in
            let q : left ≡ suc (left - 1) = omega arith in
            let d : drop (place - 1) (set gs (place - 1) goal) ≡ goal ∷ drop place gs = first-put (place - 1) (omega (arith, i.long)) ∙ ap (λ (j : ℕ). goal ∷ drop j gs) p in
            let back : goal_of first (last_at ks goal).row ≡ to v.move.state.at = goal-row first (last_at ks goal).row row ∙ ap to v.is.at in (
              v.move ∷ ms,
              rw d (more i.few v.is l),
              ap (λ (g : Goal). way_back o (left - 1) (o g) (v.move ∷ ms)) back ∙ sym (ap₂ (λ (n : ℕ) (m : Kept). way_back o n m ms) q v.keeps) ∙ e,
            );
      }
