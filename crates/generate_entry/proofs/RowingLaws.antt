-- Laws of the loops that write a row and the lines of code: one turn. Assumes nothing.
use mathlib.Core.Path.{◌≡◌, refl, sym, ap, ap₂, ◌∙◌}
use mathlib.Core.Bool.{Bool, true, false, cond}
use mathlib.Core.List.{List, [], ◌++◌, append_assoc, append-nil}
use Prim.Native.Nat.{ℕ, suc, ◌+◌, ◌-◌, ◌*◌, ◌%◌, ◌<◌, ◌≤◌}
use native.Mathlib.Omega.{arith}
use native.Mathlib.Numerals.{add-one}
use lib.Dec.{ltb}
use lib.ListN.{length}
use borrow.Author.Tests.{ltb-true}
use Rattle.text_decimals.specs.Memory.{over}
use Rattle.text_decimals.proofs.MemoryLaws.{Wrote, wrote_none, wrote-more}
use Rattle.instructions.specs.declared.Argument.TheVariants.{Target}
use Rattle.instructions.specs.Kinds.{kinds, kind_at}
use Rattle.generate_file.specs.declared.Column.{Column}
use Rattle.generate_file.specs.Draws.{next, after}
use Rattle.generate_file.specs.Words.{word, break, is_going, row_from}
use Rattle.generate_file.specs.File.{count, kind_of, line_of, code_line, code_from}
use Rattle.generate_file.proofs.WordLaws.{plain_word}
use Rattle.generate_file.proofs.CodeLaws.{code-short}

-- ---- draws

pub after_one : (k seed : ℕ) → after (k + 1) seed ≡ next (after k seed)
unfolding after
after_one k seed = rw add-one refl

-- ---- a row

-- i words of the row of n are written over `former` from `at` on, up to e, and t is the state of the last draw
pub record Rowing (c : Column) (n : ℕ) (follows : Bool) (s : ℕ) (former : List ℕ) (at : ℕ) (out : List ℕ) (e t i : ℕ) : Type 0 where
  pub few : i ≤ n
  pub made : List ℕ
  pub wrote : Wrote former at made e out
  pub short : e ≤ at + 13 * i
  pub long : length out ≡ length former
  pub whole : made ++ row_from c (n - i) i follows t ≡ row_from c n 0 follows s

break-one : (b : Bool) → length (break b) ≡ 1
break-one true = refl
break-one false = refl

module _ {c : Column} {n : ℕ} {follows : Bool} {s : ℕ} {former : List ℕ} {at : ℕ} {out : List ℕ} {e t i : ℕ} (w : Rowing c n follows s former at out e t i) where
  -- a word and what follows it
  pub rowing-next : i < n → {d : ℕ} → d ≡ next t → {f : ℕ} {out' : List ℕ} → (f ≡ e + length (word c i d)) × (out' ≡ over out e (word c i d)) → length out' ≡ length out
      → {e' : ℕ} {out'' : List ℕ} → (e' ≡ f + length (break (is_going (n - i - 1) follows))) × (out'' ≡ over out' f (break (is_going (n - i - 1) follows))) → length out'' ≡ length out'
      → Rowing c n follows s former at out'' e' d (i + 1)
  unfolding row_from
  rowing-next h {d} g {f} {out'} p l {e'} {out''} q m =
      let x = (plain_word c i d).short in
      let b = break-one (is_going (n - i - 1) follows) in
      let v = w.short in
      let left : n - i ≡ suc (n - i - 1) = omega arith in
      let same : n - i - 1 ≡ n - suc i = omega arith in
      let b' = break (is_going (n - i - 1) follows) in
      let later = row_from c (n - i - 1) (suc i) follows d in
      let joined : w.made ++ word c i d ++ b' ++ later ≡ w.made ++ (word c i d ++ b' ++ later) = simp append_assoc in
      rw add-one
      (record {
        few = omega arith;
        made = w.made ++ word c i d ++ b';
        wrote = wrote-more (wrote-more w.wrote (word c i d) p) b' q;
        short = omega (arith, p.0, q.0);
        long = m ∙ l ∙ w.long;
        whole = ap (λ k. w.made ++ word c i d ++ b' ++ row_from c k (suc i) follows d) (sym same)
            ∙ joined
            ∙ ap (λ u. w.made ++ (word c i u ++ b' ++ row_from c (n - i - 1) (suc i) follows u)) g
            ∙ ap (λ k. w.made ++ row_from c k i follows t) (sym left)
            ∙ w.whole;
      })

  pub rowing-ends : n ≤ i → (e ≡ at + length (row_from c n 0 follows s)) × (out ≡ over former at (row_from c n 0 follows s))
  unfolding row_from
  rowing-ends h =
      let z : n - i ≡ 0 = omega (arith, w.few) in
      let m : w.made ≡ row_from c n 0 follows s = sym (append-nil w.made) ∙ sym (ap (λ k. w.made ++ row_from c k i follows t) z) ∙ w.whole in
      (w.wrote.ends ∙ ap (λ u. at + length u) m, w.wrote.holds ∙ ap (over former at) m)

-- ---- the lines of code

no_target : {X : Type 0} → (kind_at 60).argument ≡ Target → X
unfolding kinds kind_at
no_target e = let z : ◌≡◌ {A = ℕ} 0 1 = cc in absurd (omega arith)

-- the closing STOP has no target
pub aims-before : (n k d : ℕ) → (kind_at (cond (ltb k n) (d % 61) 60)).argument ≡ Target → k < n
aims-before n k d e = go (ltb k n) refl e
  where
    go : (b : Bool) → ltb k n ≡ b → (kind_at (cond b (d % 61) 60)).argument ≡ Target → k < n
    go true p q = ltb-true k n p
    go false p q = no_target q

pub record Coding (seed n : ℕ) (former : List ℕ) (at : ℕ) (out : List ℕ) (e t u k : ℕ) : Type 0 where
  pub few : k ≤ suc n
  pub kinds-state : t ≡ after (1 + k) seed
  pub arguments-state : u ≡ after (1 + n + k) seed
  pub made : List ℕ
  pub wrote : Wrote former at made e out
  pub short : e ≤ at + 30 * k
  pub long : length out ≡ length former
  pub whole : made ++ code_from seed k (suc n - k) ≡ code_from seed 0 (suc n)

module _ (seed n : ℕ) (p : n ≡ count seed) where
  pub coding-starts : (former : List ℕ) (at : ℕ) → at ≤ length former → {t u : ℕ} → t ≡ next seed → u ≡ after (n + 1) seed → Coding seed n former at former at t u 0
  unfolding after
  coding-starts former at h e f =
      let q : n + 1 ≡ 1 + n + 0 = omega arith in
      record {
        few = omega arith;
        kinds-state = e;
        arguments-state = f ∙ ap (λ i. after i seed) q;
        made = [];
        wrote = wrote_none former at h;
        short = omega arith;
        long = refl;
        whole = ap (code_from seed 0) (omega arith);
      }

  module _ {former : List ℕ} {at : ℕ} {out : List ℕ} {e t u k : ℕ} (w : Coding seed n former at out e t u k) where
    more-kinds : {c : ℕ} → c ≡ next t → c ≡ after (2 + k) seed
    unfolding after
    more-kinds q = let i : suc (1 + k) ≡ 2 + k = omega arith in q ∙ ap next w.kinds-state ∙ ap (λ j. after j seed) i

    more-arguments : {d : ℕ} → d ≡ next u → d ≡ after (2 + n + k) seed
    unfolding after
    more-arguments q = let i : suc (1 + n + k) ≡ 2 + n + k = omega arith in q ∙ ap next w.arguments-state ∙ ap (λ j. after j seed) i

    line-is : {c d kind : ℕ} → c ≡ next t → d ≡ next u → kind ≡ cond (ltb k n) (c % 61) 60 → line_of n k kind d ≡ code_line seed k
    unfolding code_line kind_of
    line-is {c} {d} {kind} q r f =
        let a : kind ≡ cond (ltb k (count seed)) (after (2 + k) seed % 61) 60 = f ∙ ap₂ (λ x y. cond (ltb k x) (y % 61) 60) p (more-kinds q) in
        let b : d ≡ after (2 + count seed + k) seed = more-arguments r ∙ ap (λ x. after (2 + x + k) seed) p in
        ap (λ x. line_of x k kind d) p ∙ ap₂ (λ x y. line_of (count seed) k x y) a b

    pub coding-next : k ≤ n → k < 200 → {c d kind : ℕ} → c ≡ next t → d ≡ next u → kind ≡ cond (ltb k n) (c % 61) 60
        → {e' : ℕ} {out' : List ℕ} → (e' ≡ e + length (line_of n k kind d)) × (out' ≡ over out e (line_of n k kind d)) → length out' ≡ length out
        → Coding seed n former at out' e' c d (k + 1)
    unfolding code_from
    coding-next h l {c} {d} {kind} q r f {e'} {out'} g m =
        let line = line-is q r f in
        let y = code-short seed k l in
        let v = w.short in
        let len = ap length line in
        let left : suc n - k ≡ suc (suc n - suc k) = omega arith in
        let one : 1 + suc k ≡ 2 + k = omega arith in
        let two : 1 + n + suc k ≡ 2 + n + k = omega arith in
        let later = code_from seed (suc k) (suc n - suc k) in
        rw add-one
        (record {
          few = omega arith;
          kinds-state = more-kinds q ∙ ap (λ i. after i seed) (sym one);
          arguments-state = more-arguments r ∙ ap (λ i. after i seed) (sym two);
          made = w.made ++ line_of n k kind d;
          wrote = wrote-more w.wrote (line_of n k kind d) g;
          short = omega (arith, g.0);
          long = m ∙ w.long;
          whole = append_assoc w.made (line_of n k kind d) later
              ∙ ap (λ a. w.made ++ (a ++ later)) line
              ∙ ap (λ j. w.made ++ code_from seed k j) (sym left)
              ∙ w.whole;
        })

    pub coding-ends : n < k → (e ≡ at + length (code_from seed 0 (suc n))) × (out ≡ over former at (code_from seed 0 (suc n)))
    unfolding code_from
    coding-ends h =
        let z : suc n - k ≡ 0 = omega arith in
        let m : w.made ≡ code_from seed 0 (suc n) = sym (append-nil w.made) ∙ sym (ap (λ j. w.made ++ code_from seed k j) z) ∙ w.whole in
        (w.wrote.ends ∙ ap (λ u. at + length u) m, w.wrote.holds ∙ ap (over former at) m)

pub kind-under : (n k d : ℕ) {m : ℕ} → m ≡ cond (ltb k n) (d % 61) 60 → m < 61
kind-under n k d e = rw e (go (ltb k n))
  where
    go : (b : Bool) → cond b (d % 61) 60 < 61
    go true = omega arith
    go false = omega arith
