-- Laws of a path that is written letter by letter. Assumes nothing.
use Prim.Native.Nat.{ℕ, suc, ◌+◌, ◌/◌, ◌%◌, ◌<◌, ◌≤◌}
use mathlib.Core.Path.{◌≡◌, refl, sym, ap, ◌∙◌}
use mathlib.Core.List.{List, [], ◌∷◌, ◌++◌, map, append_assoc}
use native.Mathlib.Omega.{arith}
use native.Mathlib.Numerals.{add-one}
use lib.ListN.{length, take, drop, set, length-set}
use lib.Seq.{take-suc-set, drop-set-lt}
use Rattle.text.specs.Text.{bytes}
use Rattle.text_decimals.specs.Memory.{over}
use Rattle.text_decimals.proofs.MemoryLaws.{over_none}
use Rattle.report.specs.Report.{letter, path_text}
use Rattle.report.specs.HeldPath.{decision, decode}
use Rattle.report.proofs.DecodeLaws.{decode-none, decode-more}

-- the letters of the decisions of n
unfoldable pub letters : ℕ → List ℕ
letters n = map letter (decode n)

letters-none : (n : ℕ) → n < 2 → letters n ≡ []
unfolding letters
letters-none n h = ap (map letter) (decode-none n h)

letters-more : (n : ℕ) → 2 ≤ n → letters n ≡ letter (decision (n % 2)) ∷ letters (n / 2)
unfolding letters
letters-more n h = ap (map letter) (decode-more n h)

pub path-none : (n : ℕ) → n < 2 → path_text (decode n) ≡ bytes "-"
unfolding path_text
path-none n h = ap path_text (decode-none n h)

path-letters : (n : ℕ) → 2 ≤ n → path_text (decode n) ≡ letters n
unfolding path_text letters
path-letters n h = ap path_text (decode-more n h) ∙ sym (ap (map letter) (decode-more n h))

-- one letter is written, and the others are left
over-cons : (d : List ℕ) (e x : ℕ) (t : List ℕ) → e < length d → over (set d e x) (e + 1) t ≡ over d e (x ∷ t)
over-cons d e x t h =
    let n : suc e + length t ≡ e + length (x ∷ t) = omega arith in
    ap (λ (k : ℕ). over (set d e x) k t) (add-one e)
    ∙ ap (λ (l : List ℕ). l ++ t ++ drop (suc e + length t) (set d e x)) (take-suc-set d e x h)
    ∙ ap (λ (l : List ℕ). (take e d ++ (x ∷ [])) ++ t ++ l) (drop-set-lt (suc e + length t) d e x (omega arith))
    ∙ ap (λ (l : List ℕ). l ++ drop (suc e + length t) d) (append_assoc (take e d) (x ∷ []) t)
    ∙ ap (λ (k : ℕ). take e d ++ (x ∷ t) ++ drop k d) n

-- what is written and what is left come to the same
pub record Continues (d o : List ℕ) (at e : ℕ) (path rest : ℕ) : Type 0 where
  pub long : length o ≡ length d
  pub fits : at + length (letters path) ≤ length d
  pub ends : e + length (letters rest) ≡ at + length (letters path)
  pub holds : over o e (letters rest) ≡ over d at (letters path)

pub path-starts : (d : List ℕ) (at path : ℕ) → 2 ≤ path → at + length (path_text (decode path)) ≤ length d → Continues d d at at path path
path-starts d at path h k =
    record { long = refl; fits = omega (arith, ap length (path-letters path h)); ends = refl; holds = refl }

-- there is room for the next letter
pub path_room : {d o : List ℕ} {at e path rest : ℕ} → Continues d o at e path rest → 2 ≤ rest → e < length o
path_room {d} {o} {at} {e} {path} {rest} c h =
    let l = c.long in
    let f = c.fits in
    let n = c.ends in
    omega (arith, ap length (letters-more rest h))

pub path-next : {d o : List ℕ} {at e path rest : ℕ} → Continues d o at e path rest → 2 ≤ rest → (x : ℕ) → x ≡ letter (decision (rest % 2)) → Continues d (set o e x) at (e + 1) path (rest / 2)
path-next {d} {o} {at} {e} {path} {rest} c h x k =
    let m = letters-more rest h in
    let m' : letters rest ≡ x ∷ letters (rest / 2) = m ∙ ap (λ (y : ℕ). y ∷ letters (rest / 2)) (sym k) in
    record {
      long = length-set o e x ∙ c.long;
      fits = c.fits;
      ends = omega (arith, c.ends, ap length m);
      holds = over-cons o e x (letters (rest / 2)) (path_room c h) ∙ ap (over o e) (sym m') ∙ c.holds;
    }

pub path-ends : {d o : List ℕ} {at e path rest : ℕ} → Continues d o at e path rest → 2 ≤ path → rest < 2 → (e ≡ at + length (path_text (decode path))) × (o ≡ over d at (path_text (decode path)))
path-ends {d} {o} {at} {e} {path} {rest} c h k =
    let z = letters-none rest k in
    let p = path-letters path h in (
      omega (arith, c.ends, ap length z, ap length p),
      sym (over_none o e) ∙ ap (over o e) (sym z) ∙ c.holds ∙ ap (over d at) (sym p),
    )
