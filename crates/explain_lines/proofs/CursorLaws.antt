-- Laws of a cursor: where the line after it begins, and what stands under it. Assumes nothing.
use Prim.Native.Nat.{ℕ, ◌+◌, ◌-◌, ◌≤◌, ◌<◌}
use mathlib.Core.Path.{◌≡◌, refl, sym, ap, ◌∙◌}
use mathlib.Core.List.{List}
use native.Mathlib.Omega.{arith}
use lib.ListN.{length, get_or, take, drop, length-drop}
use lib.Seq.{take_all, drop-length, drop-drop}
use Rattle.text.specs.Text.{Line, no_line, lines}
use Rattle.text.proofs.ScanLaws.{first_length}
use Rattle.text.proofs.LineLaws.{next_more, next-none, line-drop}
use Rattle.explain_lines.specs.declared.Cursor.{Cursor}
use Rattle.explain_lines.specs.Held.{Stands}

-- what follows a byte, as the code takes it: `&s[b..]`
rest-is : (s : List ℕ) (b : ℕ) → take (length s - b) (drop b s) ≡ drop b s
rest-is s b = take_all (length s - b) (drop b s) (rw length-drop (omega arith))

module _ (s : List ℕ) (b : ℕ) (inside : b ≤ length s) (n : ℕ) (is : n ≡ first_length 10 (take (length s - b) (drop b s))) where
  pub after_more : n < length (take (length s - b) (drop b s)) → lines (drop (b + n + 1) s) ≡ drop 1 (lines (drop b s))
  after_more h =
      let q : b + (n + 1) ≡ b + n + 1 = omega arith in
      let e : drop (n + 1) (drop b s) ≡ drop (b + n + 1) s = drop-drop (n + 1) b s ∙ ap (λ k. drop k s) q in
      ap lines (sym (rest-is (drop b s) (n + 1) ∙ e)) ∙ next_more (drop b s) n (is ∙ ap (first_length 10) (rest-is s b)) (rw (rest-is s b) at h)

  pub after_none : length (take (length s - b) (drop b s)) ≤ n → lines (drop (length s) s) ≡ drop 1 (lines (drop b s))
  after_none h = ap lines (drop-length s) ∙ next-none (drop b s) n (is ∙ ap (first_length 10) (rest-is s b)) (rw (rest-is s b) at h)

pub stands-first : (s : List ℕ) → Stands s (record { byte = 0; line = 0 })
stands-first s = record { inside = omega arith; begins = refl }

module _ {s : List ℕ} {c : Cursor} (i : Stands s c) where
  pub stands-next : {b : ℕ} → (b ≤ length s) × (lines (drop b s) ≡ drop 1 (lines (drop c.byte s))) → Stands s (record { byte = b; line = c.line + 1 })
  stands-next (h, e) = record { inside = h; begins = e ∙ ap (drop 1) i.begins ∙ drop-drop 1 c.line (lines s) }

  pub stands-under : (get_or (lines (take (length s - c.byte) (drop c.byte s))) 0 no_line).text ≡ (get_or (lines s) c.line no_line).text
  stands-under = ap (λ (t : List ℕ). (get_or (lines t) 0 no_line).text) (rest-is s c.byte) ∙ ap (λ (l : Line). l.text) (line-drop (lines s) (lines (drop c.byte s)) c.line i.begins)
