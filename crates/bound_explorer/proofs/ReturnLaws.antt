-- What the explorer gives back: each way out of a turn meets the contract, and its numbers stay within what the code's numbers hold.
-- Assumes nothing.
use Rattle.std.specs.Prelude.{Err, Ok}
use mathlib.Core.Path.{◌≡◌, refl, sym, subst, ◌∙◌, ap}
use mathlib.Core.Bool.{Bool, true, false, cond}
use mathlib.Core.List.{List, [], ◌∷◌}
use Prim.Native.Nat.{ℕ, ◌+◌, ◌-◌, ◌*◌, ◌^◌, ◌≤◌, ◌<◌}
use native.Mathlib.Nat.{le_of_lt, lt_of_lt_of_le, pow-succ'}
use native.Mathlib.Numerals.{add-one}
use native.Mathlib.Omega.{arith}
use lib.Dec.{leb}
use lib.Pow.{pow_mono, pow-lt}
use Rattle.refusals.specs.declared.Refusal.{Refusal}
use Rattle.cells.specs.declared.Cell.{Cell}
use Rattle.cells.specs.Cells.{unknown}
use Rattle.machine.specs.Machine.{Code, step, reblock}
use Rattle.machine_state.specs.declared.State.{State}
use Rattle.machine_state.specs.HeldState.{view, blocks_of, whole}
use Rattle.bound_theory.specs.Tree.{Decision, N, T, Report, accepted, refused}
use Rattle.bound_theory.specs.Tree as bounds
use Rattle.bound_theory.proofs.PromiseLaws.{interruptible, exact}
use Rattle.bound_figures.specs.declared.Found.{Found}
use Rattle.bound_figures.specs.declared.Tally.{Tally}
use Rattle.bound_figures.specs.HeldFigures.{encode, accepted_as, Shows, walked, decided_of, joined_of, finished_of, refused_as}
use Rattle.bound_figures.proofs.PartLaws.{encode-positive}
use Rattle.bound_explorer.specs.HeldContract.{Explores, SafeUnder, ExactFor, Bounded}

-- ---- numbers

one-path : (o : ℕ) → 1 < 2 ^ (o + 1)
one-path o = pow-lt {i = 0} {j = o + 1} (omega arith)

pub path-fits : (o p : ℕ) → o ≤ 32 → p < 2 ^ (o - 1 + 1) → p ≤ 4294967296
path-fits o p h k = le_of_lt (lt_of_lt_of_le k (pow_mono {i = o - 1 + 1} {j = 32} (omega arith)))

pub refused-bounded : (o budget n : ℕ) (x : Refusal) (r : Found) → r ≡ refused_as x n → n ≤ budget → Bounded o budget r
unfolding refused_as
refused-bounded o budget n x r e h = rw e (record { used = h; cycles = omega arith; words = omega arith; path = one-path o })

pub finished-bounded : (o budget n : ℕ) (t : Tally) (r : Found) → r ≡ finished_of t n → n ≤ budget → t.cycles ≤ 8589934592 * n → t.words ≤ 4294967296 * n → Bounded o budget r
unfolding finished_of
finished-bounded o budget n t r e h c w = rw e (record { used = h; cycles = c; words = w; path = one-path o })

decided-fits : (m k l p q : ℕ) → p < m → q < m → decided_of k l p q < 2 * m
unfolding decided_of
decided-fits m k l p q h g = go (leb k l)
  where
    go : (b : Bool) → cond b (2 * q + 1) (2 * p) < 2 * m
    go true = omega arith
    go false = omega arith

pub joined-bounded : (o budget n left : ℕ) (t : Tally) (x : ℕ) (f g r : Found) → r ≡ joined_of t n f x g → 0 < o → n + left ≤ budget → t.cycles + x ≤ 8589934592 * n → t.words ≤ 4294967296 * n →
    Bounded (o - 1) left f → Bounded (o - 1) (left - f.used) g → Bounded o budget r
unfolding joined_of
joined-bounded o budget n left t x f g r e z h c w mf mg =
    let d : 2 * 2 ^ (o - 1 + 1) ≡ 2 ^ (o + 1) = ap (λ k. 2 * 2 ^ k) (small o z) ∙ sym (pow-succ' 2 o) ∙ ap (λ k. 2 ^ k) (sym (add-one o)) in
    rw e (record {
      used = omega (arith, mf.used, mg.used);
      cycles = omega (arith, mf.cycles, mg.cycles);
      words = omega (arith, mf.words, mg.words);
      path = subst (λ k. decided_of f.cycles (x + g.cycles) f.path g.path < k) d (decided-fits (2 ^ (o - 1 + 1)) f.cycles (x + g.cycles) f.path g.path mf.path mg.path);
    })
  where
    small : (o : ℕ) → 0 < o → o - 1 + 1 ≡ o
    small o z = omega arith

-- ---- an accepted answer has one report

-- the number of a path is of no other path
pub encode_injective : (ds es : List Decision) → encode ds ≡ encode es → ds ≡ es
unfolding encode
encode_injective [] [] e = refl
encode_injective [] (N ∷ es) e = absurd (omega (arith, encode-positive es))
encode_injective [] (T ∷ es) e = absurd (omega (arith, encode-positive es))
encode_injective (N ∷ ds) [] e = absurd (omega (arith, encode-positive ds))
encode_injective (T ∷ ds) [] e = absurd (omega (arith, encode-positive ds))
encode_injective (N ∷ ds) (N ∷ es) e = ap (λ x. N ∷ x) (encode_injective ds es (omega arith))
encode_injective (N ∷ ds) (T ∷ es) e = absurd (omega arith)
encode_injective (T ∷ ds) (N ∷ es) e = absurd (omega arith)
encode_injective (T ∷ ds) (T ∷ es) e = ap (λ x. T ∷ x) (encode_injective ds es (omega arith))

same-report : (p q : Report) → accepted_as p ≡ accepted_as q → p ≡ q
unfolding accepted_as
same-report p q e =
    let c : p.cycles ≡ q.cycles = ap (λ r. r.cycles) e in
    let w : p.words ≡ q.words = ap (λ r. r.words) e in
    let d : p.depth ≡ q.depth = ap (λ r. r.depth) e in
    let s : p.steps ≡ q.steps = ap (λ r. r.used) e in
    let d' : p.path ≡ q.path = encode_injective p.path q.path (ap (λ r. r.path) e) in
    λ i. record { cycles = c i; words = w i; depth = d i; steps = s i; path = d' i }

accepted-verdict : (v : bounds.Verdict) (r : Found) (q : Report) → Shows r v → r ≡ accepted_as q → v ≡ accepted q
unfolding accepted_as
accepted-verdict (accepted p) r q h e = ap accepted (same-report p q (sym h ∙ e))
accepted-verdict (refused x) r q h e =
    let f : Ok tt ≡ Err x = sym (ap (λ r. r.verdict) e) ∙ h in
    let z : ◌≡◌ {A = ℕ} 0 1 = cc in
    absurd (omega arith)

-- ---- the contract

-- what is explored is the state that the code's one stands for
pub explores-at : (c : Code) (ns : List ℕ) (fs : List Cell) (s s' : State) (o budget : ℕ) (r : Found) → view s ≡ view s' → Explores c ns fs s o budget r → Explores c ns fs s' o budget r
unfolding whole
explores-at c ns fs s s' o budget r e h = record {
  shows = subst (λ m. Shows r (bounds.explore (step c unknown) o budget (reblock (blocks_of ns fs) m))) e h.shows;
  counts = h.counts ∙ ap (λ m. walked budget (bounds.steps (bounds.tree (step c unknown) budget o (reblock (blocks_of ns fs) m)))) e;
}

module _ (c : Code) (ns : List ℕ) (fs : List Cell) (start : State) (o budget : ℕ) (r : Found) (h : Explores c ns fs start o budget r) where
  pub safe-under : SafeUnder c o budget (whole ns fs start) r
  safe-under q e s w answers n = interruptible c o budget (whole ns fs start) q (accepted-verdict _ r q h.shows e) s w answers n

  pub exact-for : ExactFor c o (whole ns fs start) r
  exact-for q e = exact c o budget (whole ns fs start) q (accepted-verdict _ r q h.shows e)
