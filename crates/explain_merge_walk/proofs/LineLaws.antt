-- Laws of the lines of a way: they are those of its moves, and the loop that writes them. Assumes nothing.
use Prim.Native.Nat.{ℕ, zero, suc, ◌+◌, ◌-◌, ◌*◌, ◌≤◌, ◌<◌}
use mathlib.Core.Path.{◌≡◌, refl, sym, ap, ◌∙◌}
use mathlib.Core.List.{List, [], ◌∷◌, ◌++◌, append_assoc, append-nil}
use native.Mathlib.Omega.{arith}
use lib.ListN.{length, get_or, drop, length-append}
use Rattle.text.specs.Text.{Line, no_line}
use Rattle.text_decimals.specs.Memory.{over}
use Rattle.text_decimals.proofs.MemoryLaws.{Wrote, wrote-more}
use Rattle.machine.specs.Machine.{height}
use Rattle.bound_theory.specs.Tree.{Decision, Report}
use Rattle.bound_theory.specs.Traces.{Move}
use Rattle.bound_figures.specs.HeldFigures.{encode}
use Rattle.report.specs.HeldPath.{decode, report_of}
use Rattle.report.proofs.DecodeLaws.{report-of}
use Rattle.explain_lines.specs.Listing.{entries_from, code_text, entry_text, listing}
use Rattle.merge_origins.specs.declared.Last.{Last}
use Rattle.merge_origins.specs.HeldOrigins.{last_at}
use Rattle.explain_merge_walk.proofs.BackLaws.{drop-none}
use Rattle.explain_merge_walk.specs.HeldLasts.{Lists, none, more, Usable, way_text}

-- ---- the lines are those of the moves

decoded : (ds : List Decision) → decode (encode ds) ≡ ds
unfolding report_of
decoded ds = ap (λ (r : Report). r.path) (report-of (record { cycles = 0; words = 0; depth = 0; steps = 0; path = ds }))

pub text-from : (ls : List Line) (first : ℕ) (ks : List ℕ) (cycles words : ℕ) {gs : List ℕ} {ms : List Move} → Lists first ks gs ms → way_text ls cycles words ks gs ≡ listing ls first (entries_from cycles words ms)
unfolding way_text listing entries_from code_text
text-from ls first ks cycles words none = refl
text-from ls first ks cycles words (more {g} {x} {m} {gs} {ms} h i l) =
    let row : (last_at ks g).row ≡ m.state.at - first = omega (arith, i.at) in
    let way : decode (last_at ks g).way ≡ m.decision = ap decode i.way ∙ decoded m.decision in
    rw (row, way, i.cycles, i.words, i.depth)
    (ap (λ (t : List ℕ). entry_text (get_or ls (m.state.at - first) no_line).text (cycles + m.price.cycles) (words + m.price.words) (height m.state) m.decision ++ t) (text-from ls first ks (cycles + m.price.cycles) (words + m.price.words) l))

-- ---- the loop

abbrev remaining : List Line → List ℕ → List ℕ → ℕ → ℕ → ℕ → List ℕ
remaining ls ks gs i spent sum = way_text ls spent sum ks (drop i gs)

-- what holds whenever the loop's test is reached
pub record Writing (ls : List Line) (ks gs : List ℕ) (former : List ℕ) (start : ℕ) (total : List ℕ) (out : List ℕ) (e spent sum i : ℕ) : Type 0 where
  pub made : List ℕ
  pub wrote : Wrote former start made e out
  pub long : length out ≡ length former
  pub cycles : spent ≤ 8589934592 * i
  pub words : sum ≤ 4294967296 * i
  pub within : i ≤ length gs
  pub whole_is : made ++ remaining ls ks gs i spent sum ≡ total

drop-next : (gs : List ℕ) (i : ℕ) → i < length gs → drop i gs ≡ get_or gs i 0 ∷ drop (suc i) gs
drop-next [] i h = absurd (omega arith)
drop-next (g ∷ gs) zero h = refl
drop-next (g ∷ gs) (suc i) h = drop-next gs i (omega arith)

module _ {ls : List Line} {ks gs former : List ℕ} {start : ℕ} {total out : List ℕ} {e spent sum i : ℕ} (v : Writing ls ks gs former start total out e spent sum i) where
  pub writing-ends : length gs ≤ i → (e ≡ start + length total) × (out ≡ over former start total)
  unfolding way_text
  writing-ends h =
      let q : v.made ≡ total = sym (append-nil v.made) ∙ ap (λ (x : List ℕ). v.made ++ way_text ls spent sum ks x) (sym (drop-none gs i h)) ∙ v.whole_is in
      (v.wrote.ends ∙ ap (λ (t : List ℕ). start + length t) q, v.wrote.holds ∙ ap (over former start) q)

  -- one line more: l is what is kept for the goal
  module _ (some : i < length gs) (usable : Usable ks gs) (l : Last) (is : l ≡ last_at ks (get_or gs i 0)) where
    pub sums-fit : (spent + l.cycles ≤ 8589934592 * (i + 1)) × (sum + l.words ≤ 4294967296 * (i + 1))
    sums-fit =
        let u = usable i some in
        let c = ap (λ (l : Last). l.cycles) is in
        let w = ap (λ (l : Last). l.words) is in
        (omega (arith, u.cycles, v.cycles), omega (arith, u.words, v.words))

    module _ (line : List ℕ) (line-is : line ≡ (get_or ls l.row no_line).text) where
      abbrev written : List ℕ
      written = entry_text line (spent + l.cycles) (sum + l.words) l.depth (decode l.way)

      abbrev others : List ℕ
      others = remaining ls ks gs (i + 1) (spent + l.cycles) (sum + l.words)

      after : suc i ≡ i + 1
      after = omega arith

      all-is : (v.made ++ written) ++ others ≡ total
      unfolding way_text
      all-is =
          append_assoc v.made written others
          ∙ ap (λ (t : List ℕ). v.made ++ (entry_text t (spent + l.cycles) (sum + l.words) l.depth (decode l.way) ++ others)) line-is
          ∙ ap (λ (k : Last). v.made ++ (entry_text (get_or ls k.row no_line).text (spent + k.cycles) (sum + k.words) k.depth (decode k.way) ++ remaining ls ks gs (i + 1) (spent + k.cycles) (sum + k.words))) is
          ∙ ap (λ (x : List ℕ). v.made ++ way_text ls spent sum ks x) (sym (drop-next gs i some ∙ ap (λ (n : ℕ). get_or gs i 0 ∷ drop n gs) after))
          ∙ v.whole_is

      pub writing-room : start + length total ≤ length former → e + length written ≤ length out
      writing-room room =
          let m : length v.made + length written + length others ≡ length total = ap (λ n. n + length others) (sym (length-append v.made written)) ∙ sym (length-append (v.made ++ written) others) ∙ ap length all-is in
          omega (arith, v.long, v.wrote.ends)

      pub writing-next : {e' : ℕ} {out' : List ℕ} → (e' ≡ e + length written) × (out' ≡ over out e written) → length out' ≡ length out
          → Writing ls ks gs former start total out' e' (spent + l.cycles) (sum + l.words) (i + 1)
      writing-next put m = record {
        made = v.made ++ written;
        wrote = wrote-more v.wrote written put;
        long = m ∙ v.long;
        cycles = sums-fit.0;
        words = sums-fit.1;
        within = omega arith;
        whole_is = all-is;
      }
