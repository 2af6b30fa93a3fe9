-- What is promised of the search. Assumes nothing.
use Prim.Native.Nat.{ℕ, zero, suc}
use mathlib.Core.Path.{◌≡◌, refl, ap}
use mathlib.Core.Bool.{Bool, true, false, not}
use mathlib.Core.List.{List, [], ◌∷◌}
use mathlib.Core.Logic.{◌⊎◌, inl, inr}
use Rattle.std.specs.Prelude.{Some as some, None as none}
use native.Mathlib.Omega.{arith}
use lib.Dec.{eqb}
use borrow.Author.Tests.{eqb-true, eqb-false, not-false}
use Rattle.refusals.specs.declared.Refusal.{Refusal}
use Rattle.refusals.specs.declared.Refusal.TheVariants.{Spent}
use Rattle.refusals.specs.Refusals.{number}
use Rattle.machine.specs.Machine.{State, Code}
use Rattle.bound_theory.specs.Tree.{Reason, is_stuck, opens_too_many, is_cut, Step, made, not_made, Report, Verdict, accepted, refused, refusal, address, judge, verdict, explore, bound}
use Rattle.nearest_changes.specs.Changes.{applied, nearest}
use Rattle.nearest_changes.proofs.Theorems.{found-nearest, none_found}
use Rattle.nearest_search.specs.Search.{moved, found, refused_by, search_from, search}
use Rattle.nearest_search.specs.Promises.{Moves, other_cycles, now_refused, MovedFirst, NeverMoved, FoundMoves, NoneMoves}

-- ---- the bound refuses by 7, 8 and 9 alone

abbrev Late : Refusal → Type 0
Late x = (number x ≡ 7) ⊎ (number x ≡ 8) ⊎ (number x ≡ 9)

late : (r : Reason) (a : ℕ) → Late (refusal r a)
unfolding refusal number
late is_stuck a = inl refl
late opens_too_many a = inr (inl refl)
late is_cut a = inr (inr refl)

judged : (b : ℕ) (xs : List Step) (q : Report) (x : Refusal) → judge b xs q ≡ refused x → Late x
unfolding judge number
judged b [] q x e = let z : ◌≡◌ {A = ℕ} 0 1 = cc in absurd (omega arith)
judged zero (y ∷ ys) q x e = let h : Spent (address y) ≡ x = cc in rw (← h) (inr (inr refl))
judged (suc b) (made a ∷ ys) q x e = judged b ys q x e
judged (suc b) (not_made r a ∷ ys) q x e = let h : refusal r a ≡ x = cc in rw (← h) (late r a)

bound-late : (c : Code) (budget : ℕ) (s : State) (x : Refusal) → bound c budget s ≡ refused x → Late x
unfolding bound explore verdict
bound-late c budget s x e = judged budget _ _ x e

-- ---- the test is that of the promises

module _ (c : Code) (budget : ℕ) (q : Report) (s : State) where
  moves-true : moved q.cycles (bound c budget s) ≡ true → Moves q (bound c budget s)
  unfolding moved
  moves-true = go (bound c budget s) refl
    where
      differs : (r : Report) (b : Bool) → eqb r.cycles q.cycles ≡ b → not b ≡ true → Moves q (accepted r)
      differs r true h e = let z : ◌≡◌ {A = ℕ} 0 1 = cc in absurd (omega arith)
      differs r false h e = other_cycles (eqb-false r.cycles q.cycles h)

      go : (v : Verdict) → bound c budget s ≡ v → moved q.cycles v ≡ true → Moves q v
      go (accepted r) h e = differs r (eqb r.cycles q.cycles) refl e
      go (refused x) h e = now_refused (bound-late c budget s x h)

  moves-false : moved q.cycles (bound c budget s) ≡ false → Moves q (bound c budget s) → ⊥
  unfolding moved
  moves-false = go (bound c budget s)
    where
      go : (v : Verdict) → moved q.cycles v ≡ false → Moves q v → ⊥
      go (accepted r) e (other_cycles n) = n (eqb-true r.cycles q.cycles (not-false (eqb r.cycles q.cycles) e))
      go (refused x) e (now_refused h) = let z : ◌≡◌ {A = ℕ} 0 1 = cc in omega arith

  unmoved : (Moves q (bound c budget s) → ⊥) → moved q.cycles (bound c budget s) ≡ false
  unmoved f = go (moved q.cycles (bound c budget s)) refl
    where
      go : (b : Bool) → moved q.cycles (bound c budget s) ≡ b → moved q.cycles (bound c budget s) ≡ false
      go true h = absurd (f (moves-true h))
      go false h = h

-- ---- the promises

-- the test of the search
abbrev moving : Code → ℕ → Report → State → Bool
moving c budget q t = moved q.cycles (bound c budget t)

pub found-moves : FoundMoves
unfolding search search_from
found-moves c budget s x e = go (bound c budget s) refl e
  where
    go : (v : Verdict) → bound c budget s ≡ v → search_from c budget s v ≡ found (some x) → (q : Report) × MovedFirst c budget s q x
    go (accepted q) h e =
        let f : nearest (moving c budget q) s ≡ some x = cc in
        let n = found-nearest (moving c budget q) s x f in (
          q,
          record {
            reports = h;
            amount = n.amount;
            direction = n.direction;
            change = n.change;
            moves = moves-true c budget q (applied x s) n.alters;
            first = λ m d y a b. moves-false c budget q (applied y s) (n.first m d y a b);
          },
        )
    go (refused r) h e = let z : ◌≡◌ {A = ℕ} 0 1 = cc in absurd (omega arith)

pub none_moves : NoneMoves
unfolding search search_from
none_moves c budget s = (λ e. forth (bound c budget s) refl e, back)
  where
    forth : (v : Verdict) → bound c budget s ≡ v → search_from c budget s v ≡ found none → (q : Report) × NeverMoved c budget s q
    forth (accepted q) h e =
        let f : nearest (moving c budget q) s ≡ none = cc in
        (q, record { reports = h; still = λ n d x a. moves-false c budget q (applied x s) ((none_found (moving c budget q) s).0 f n d x a) })
    forth (refused r) h e = let z : ◌≡◌ {A = ℕ} 0 1 = cc in absurd (omega arith)

    back : (q : Report) → NeverMoved c budget s q → search_from c budget s (bound c budget s) ≡ found none
    back q h = rw h.reports (ap found ((none_found (moving c budget q) s).1 (λ n d x a. unmoved c budget q (applied x s) (h.still n d x a))))

-- "A file that is refused to begin with is refused the same way here."
abbrev pub RefusedAlike : Type 0
RefusedAlike =
    (c : Code) (budget : ℕ) (s : State) (r : Refusal) →
    (search c budget s ≡ refused_by r → bound c budget s ≡ refused r) × (bound c budget s ≡ refused r → search c budget s ≡ refused_by r)

pub refused-alike : RefusedAlike
unfolding search search_from
refused-alike c budget s r = (λ e. forth (bound c budget s) e, λ e. ap (search_from c budget s) e)
  where
    forth : (v : Verdict) → search_from c budget s v ≡ refused_by r → v ≡ refused r
    forth (accepted q) e = let z : ◌≡◌ {A = ℕ} 0 1 = cc in absurd (omega arith)
    forth (refused x) e = let h : x ≡ r = cc in ap refused h
