-- The scan of a row over the lines of a text, as the loop makes it. Assumes nothing.
use Rattle.std.specs.Prelude.{None, Option, Some}
use Prim.Native.Nat.{ℕ, suc, ◌+◌, ◌-◌, ◌<◌, ◌≤◌}
use mathlib.Core.Path.{◌≡◌, refl, sym, ap, ap₂, ◌∙◌}
use mathlib.Core.Bool.{Bool, true, false, cond, not}
use mathlib.Core.List.{List, ◌∷◌}
use native.Mathlib.Omega.{arith}
use lib.Dec.{eqb, ltb}
use lib.ListN.{length, get_or, drop}
use Rattle.text.specs.Text.{Line, lines, no_line}
use Rattle.text.proofs.TextLaws.{Every, none, more, every-get_d}
use Rattle.text.proofs.LineLaws.{lines-first, lines_none}
use Rattle.file_format.specs.declared.Role.{Role}
use Rattle.file_format.specs.declared.Role.TheVariants.{Names as names, Code as code, Answer as answer}
use Rattle.file_format.specs.declared.Row.{Row}
use Rattle.file_format.specs.declared.Section.TheVariants.{Answers as answers}
use Rattle.file_format.specs.Layout.{layout}
use Rattle.file_format.specs.Rows.{test, earliest, refused_line}
use Rattle.file_check.specs.HeldScan.{Small, HeadingBefore, line_with, is_heading, role_of, heading_after, missing}
use Rattle.file_check.proofs.ArmLaws.{above}
use Rattle.file_check.specs.HeldChecks.{kept_after, refused_at}
use borrow.Author.Tests.{eq-eqb, ne_eqb, eqb-false, ltb-true, ltb-false}
use Rattle.file_check.proofs.ScanLaws.{remaining, remaining-all, heading-start, heading-next, scan-ends, scan-fails, scan-goes}

-- the number of a code line is small where the line's is

layout-small : Every Small layout
layout-small = more tt (more tt (more tt (more tt (more tt (more tt (more tt (more tt (more tt (more tt (more tt (more tt (more tt (more tt none)))))))))))))

pub role-small : (i m : ℕ) (text : List ℕ) → i ≤ 32768 → Small (role_of i m text)
unfolding role_of
role-small i m text h = go (ltb i (length layout)) (ltb 0 m) (is_heading i text)
  where
    go : (a b d : Bool) → Small (cond a (get_or layout i (code 0)) (cond b (answer (i - m - 1)) (cond d (names answers) (code (i - (length layout))))))
    go true b d = every-get_d {P = Small} layout-small (omega arith) i
    go false true d = tt
    go false false true = tt
    go false false false = omega arith

-- the line that the row refuses is the first that it refuses of the lines left
pub record Scanned (row : Row) (text rest : List ℕ) (i m : ℕ) : Type 0 where
  pub same : refused_line row (lines text) ≡ earliest (test row (lines text)) (suc i) (remaining i m (lines rest)) (lines rest)
  pub heading : HeadingBefore i m
  pub size : i + length rest ≤ length text

pub scanned-start : (row : Row) (text : List ℕ) → Scanned row text text 0 0
unfolding refused_line
scanned-start row text = record {
  same = ap (λ rs. earliest (test row (lines text)) 1 rs (lines text)) (sym (remaining-all (lines text)));
  heading = heading-start;
  size = omega arith;
}

-- the first line left, by its parts, and what the row says of it

module _ {row : Row} {text rest : List ℕ} {i m : ℕ} (s : Scanned row text rest i m) (some : 0 < length rest) {l : List ℕ} {e : Bool} {o : Role} {b : Bool}
    (is : l ≡ (get_or (lines rest) 0 no_line).text) (ends : e ≡ (get_or (lines rest) 0 no_line).ended) (role : o ≡ role_of i m l) (says : b ≡ test row (lines text) o (line_with l e)) where
  abbrev first : Line
  first = get_or (lines rest) 0 no_line

  whole : line_with l e ≡ first
  whole = ap₂ line_with is ends

  tested : b ≡ test row (lines text) (role_of i m first.text) first
  tested = says ∙ ap₂ (test row (lines text)) (role ∙ ap (role_of i m) is) whole

  left : refused_line row (lines text) ≡ earliest (test row (lines text)) (suc i) (remaining i m (first ∷ drop 1 (lines rest))) (first ∷ drop 1 (lines rest))
  left = s.same ∙ ap (λ ls. earliest (test row (lines text)) (suc i) (remaining i m ls) ls) (lines-first rest some)

  scanned-fails : b ≡ false → Some (i + 1) ≡ refused_line row (lines text)
  scanned-fails h =
      let n : i + 1 ≡ suc i = omega arith in
      rw n (sym (left ∙ scan-fails (test row (lines text)) (suc i) i m s.heading first (drop 1 (lines rest)) (sym tested ∙ h)))

  scanned-goes : b ≡ true → (next : List ℕ) → lines next ≡ drop 1 (lines rest) → length next ≤ length rest - 1 → (m' : ℕ) → m' ≡ heading_after i m l → Scanned row text next (i + 1) m'
  scanned-goes h next q k m' p =
      let n : i + 1 ≡ suc i = omega arith in
      let f : m' ≡ heading_after i m first.text = p ∙ ap (heading_after i m) is in
      record {
        same = rw (n, q, f) (left ∙ rw n at (scan-goes (test row (lines text)) (suc i) i m s.heading first (drop 1 (lines rest)) (sym tested ∙ h)));
        heading = rw f (heading-next i m first.text s.heading);
        size = let z = s.size in omega arith;
      }

-- no line is left

module _ {row : Row} {text rest : List ℕ} {i m : ℕ} (s : Scanned row text rest i m) (gone : length rest ≤ 0) where
  ends : refused_line row (lines text) ≡ cond (missing i m) (Some (suc i)) None
  ends = s.same ∙ ap (λ ls. earliest (test row (lines text)) (suc i) (remaining i m ls) ls) (lines_none rest gone) ∙ scan-ends (test row (lines text)) (suc i) i m s.heading

-- ---- what is kept for a row

-- as long as no line is refused the lines left decide, and else the line that is kept is the one
pub record Keeps (row : Row) (text rest : List ℕ) (i m kept : ℕ) : Type 0 where
  pub ahead : kept ≡ 0 → Scanned row text rest i m
  pub done : 0 < kept → refused_line row (lines text) ≡ Some kept

pub keeps-start : (row : Row) (text : List ℕ) {n : ℕ} → n ≡ 0 → Keeps row text text 0 0 n
keeps-start row text e = record { ahead = λ z. scanned-start row text; done = λ h. absurd (omega arith) }

-- the number that is kept says which line is refused
pub refused-some : {n : ℕ} {r : Option ℕ} → r ≡ Some n → 0 < n → refused_at n ≡ r
unfolding refused_at
refused-some {n} e h = rw (ne_eqb n 0 (λ (z : n ≡ 0). omega arith)) (sym e)

pub some-refused : {n : ℕ} {r : Option ℕ} → refused_at n ≡ r → 0 < n → r ≡ Some n
unfolding refused_at
some-refused {n} e h = sym e ∙ (rw (ne_eqb n 0 (λ (z : n ≡ 0). omega arith)) refl)

pub none-refused : {n : ℕ} {r : Option ℕ} → refused_at n ≡ r → n ≤ 0 → r ≡ None
unfolding refused_at
none-refused {n} e h = sym e ∙ (rw (eq-eqb n 0 (omega arith)) refl)

-- where it is 0 none is
none-refused-at : {n : ℕ} → n ≡ 0 → refused_at n ≡ None
unfolding refused_at
none-refused-at {n} v = rw (eq-eqb n 0 v) refl

-- where no line is refused none is kept
pub none_kept : {row : Row} {text rest : List ℕ} {i m kept : ℕ} → Keeps row text rest i m kept → refused_line row (lines text) ≡ None → eqb kept 0 ≡ true
none_kept {kept = kept} s e = go (eqb kept 0) refl
  where
    go : (b : Bool) → eqb kept 0 ≡ b → eqb kept 0 ≡ true
    go true q = q
    go false q =
        let l : Some kept ≡ None = sym (s.done (above 0 kept (omega arith) (eqb-false kept 0 q))) ∙ e in
        let z : ◌≡◌ {A = ℕ} 0 1 = cc in
        absurd (omega arith)

-- after the first line left

module _ {row : Row} {text rest : List ℕ} {i m kept : ℕ} (s : Keeps row text rest i m kept) (some : 0 < length rest) {l : List ℕ} {e : Bool} {o : Role} {b : Bool}
    (is : l ≡ (get_or (lines rest) 0 no_line).text) (ends : e ≡ (get_or (lines rest) 0 no_line).ended) (role : o ≡ role_of i m l) (says : kept ≡ 0 → b ≡ test row (lines text) o (line_with l e)) where
  pub keeps-done : {n : ℕ} → n ≡ kept_after kept b (i + 1) → 0 < n → refused_line row (lines text) ≡ Some n
  unfolding kept_after
  keeps-done {n} q h = go (ltb 0 kept) refl b refl q
    where
      go : (a : Bool) → ltb 0 kept ≡ a → (d : Bool) → b ≡ d → n ≡ cond a kept (cond d 0 (i + 1)) → refused_line row (lines text) ≡ Some n
      go true x d y z = s.done (ltb-true 0 kept x) ∙ ap Some (sym z)
      go false x true y z = absurd (omega arith)
      go false x false y z = let k : kept ≡ 0 = (let w = ltb-false 0 kept x in omega arith) in sym (scanned-fails (s.ahead k) some is ends role (says k) y) ∙ ap Some (sym z)

  pub keeps-goes : {n : ℕ} → n ≡ kept_after kept b (i + 1) → (next : List ℕ) → lines next ≡ drop 1 (lines rest) → length next ≤ length rest - 1 → (m' : ℕ) → m' ≡ heading_after i m l → Keeps row text next (i + 1) m' n
  unfolding kept_after
  keeps-goes {n} q next a d m' p = record { ahead = λ z. go (ltb 0 kept) refl b refl q z; done = keeps-done q }
    where
      go : (a : Bool) → ltb 0 kept ≡ a → (d : Bool) → b ≡ d → n ≡ cond a kept (cond d 0 (i + 1)) → n ≡ 0 → Scanned row text next (i + 1) m'
      go true x d y z w = absurd (let v = ltb-true 0 kept x in omega arith)
      go false x true y z w = let k : kept ≡ 0 = (let v = ltb-false 0 kept x in omega arith) in scanned-goes (s.ahead k) some is ends role (says k) y next a d m' p
      go false x false y z w = absurd (omega arith)

-- where none is left

pub keeps-ends : {row : Row} {text rest : List ℕ} {i m kept : ℕ} → Keeps row text rest i m kept → length rest ≤ 0 → {a b : Bool} → a ≡ missing i m → b ≡ not a → {n : ℕ} → n ≡ kept_after kept b (i + 1)
    → refused_at n ≡ refused_line row (lines text)
unfolding kept_after
keeps-ends {row} {text} {rest} {i} {m} {kept} s gone {a} {b} p q {n} e = go (ltb 0 kept) refl a refl (e ∙ ap (λ (x : Bool). cond (ltb 0 kept) kept (cond x 0 (i + 1))) q)
  where
    go : (x : Bool) → ltb 0 kept ≡ x → (y : Bool) → a ≡ y → n ≡ cond x kept (cond (not y) 0 (i + 1)) → refused_at n ≡ refused_line row (lines text)
    go true f y g z = let h = ltb-true 0 kept f in refused-some (s.done h ∙ ap Some (sym z)) (omega arith)
    go false f true g z = let k : kept ≡ 0 = (let v = ltb-false 0 kept f in omega arith) in refused-some (ends (s.ahead k) gone ∙ ap (λ t. cond t (Some (suc i)) None) (sym p ∙ g) ∙ ap Some (suc-is z)) (omega arith)
      where
        suc-is : n ≡ i + 1 → suc i ≡ n
        suc-is v = omega arith
    go false f false g z = let k : kept ≡ 0 = (let v = ltb-false 0 kept f in omega arith) in (none-at z) ∙ sym (ends (s.ahead k) gone ∙ ap (λ t. cond t (Some (suc i)) None) (sym p ∙ g))
      where
        none-at : n ≡ 0 → refused_at n ≡ None
        none-at v = none-refused-at v
