-- `split_bound::split` meets its contract: each call has one cut less left. Assumes nothing.
use Prim.Native.Nat.{ℕ, ◌+◌, ◌-◌, ◌<◌}
use borrow.Fn.Kinds.{In}
use borrow.Fn.PlainCycle.{Measures, is, falls, and}
use Rattle.split_bound.proofs.split.Reads as split
use Rattle.split_bound.proofs.split.Kinds as split-kinds
use Rattle.split_bound.proofs.+split.Lts-split as split-lts
use Rattle.merge_sweep.proofs.merge_by.Reads as merge-by-reads
use Rattle.split_bound.proofs.case_at.Reads as case-at-reads
use Rattle.split_bound.proofs.cut_at.Reads as cut-at-reads
use Rattle.split_bound.proofs.larger.Reads as larger-reads
use mathlib.Core.Path.{◌≡◌, sym, ap, subst, ◌∙◌}
use native.Mathlib.Omega.{arith}
use borrow.Author.Rules.{rules}
use Rattle.machine_state.specs.HeldProgram.{program_of, sizes_of}
use Rattle.machine_state.specs.HeldState.{whole}
use Rattle.bound_figures.specs.HeldFigures.{Shows}
use Rattle.merge_sweep.specs.HeldPass.{Figures}
use Rattle.split_theory.specs.Split.{below, from, larger, split as splits}
use Rattle.split_theory.specs.Held.{cut_in, cuts_from}
use Rattle.split_bound.proofs.CaseLaws.{cuts-end, cuts-more, cut-whole, Divides, cut-two, lower-case, upper-case, split-none, split-whole, split-two, shows, first-refused, larger-shown, larger-figures}
use Rattle.split_bound.proofs.+split.{statement}
use Rattle.split_bound.proofs.+split.Tie.{close}

abbrev μ-split : Measures 2 split-kinds.ps ℕ
μ-split κs a = a.1.0.count - a.1.1.0

abbrev split_at : ℕ → In 2 split-kinds.ps
split_at t = and 2 split-kinds.ps (is 2 split-kinds.ps μ-split t) split.Pre

abbrev split_below : ℕ → In 2 split-kinds.ps
split_below t = and 2 split-kinds.ps (falls 2 split-kinds.ps ◌<◌ μ-split t) split.Pre

abbrev split-claims : ℕ → split-lts.Claims
split-claims t = (
  merge-by-reads.Asked,
  merge-by-reads.Learnt,
  cut-at-reads.Asked,
  cut-at-reads.Learnt,
  split_below t,
  split.Post,
  case-at-reads.Asked,
  case-at-reads.Learnt,
  larger-reads.Asked,
  larger-reads.Learnt,
)

split-merge-by-requires : (t : ℕ) → split-lts.Need-merge_by-requires (split-claims t) (split_at t) split.Post
split-merge-by-requires t c κs =
    let s = c in
    let x = s.requires.1.0 in
    ((x.program, x.formed, x.room, x.numeric), (x.placed, s.requires.1.3))

split-same-length : (t : ℕ) → split-lts.Need-shape_of-rows-then-i-cuts (split-claims t) (split_at t) split.Post
split-same-length t c = c.before.rows-1.given

split-returns : (t : ℕ) → split-lts.Need-returns-then-i-cuts (split-claims t) (split_at t) split.Post
split-returns t c =
    let a = c.args in
    let m = c in
    (shows m.merge_by.result (split-none _ (cuts-end a.cuts a.i m.if-i-cuts.true) _) m.merge_by.ensures.0, m.merge_by.ensures.1)

split-cut-at-requires : (t : ℕ) → split-lts.Need-cut_at-parts-requires (split-claims t) (split_at t) split.Post
split-cut-at-requires t c κs =
    let s = c in
    let x = s.requires.1.0 in
    (x.program, x.formed, s.requires.1.1, omega (arith, c.if-i-cuts.false, s.requires.1.2))

split-enum-known-parts : (t : ℕ) → split-lts.Need-enum_known-parts (split-claims t) (split_at t) split.Post
split-enum-known-parts t c = search rules

split-enum-told : (t : ℕ) → split-lts.Need-enum_told-1 (split-claims t) (split_at t) split.Post
split-enum-told t c = search rules

-- a cut is left
left : (t : ℕ) (c : split-lts.Else-i-cuts (split-claims t) (split_at t) split.Post) → c.args.i < c.args.cuts.count
left t c = omega (arith, c.if-i-cuts.false, c.requires.1.2)

-- one less is left after it
less : (n i t : ℕ) → n - i ≡ t → i < n → n - (i + 1) < t
less n i t e h = omega arith

split-add-split : (t : ℕ) → split-lts.Need-overflow_add-i (split-claims t) (split_at t) split.Post
split-add-split t c = omega (arith, left t c.before.before, c.requires.1.1.count)

split-split-requires : (t : ℕ) → split-lts.Need-split-requires (split-claims t) (split_at t) split.Post
split-split-requires t c κs =
    let e = c in
    let s = e in
    (less _ _ t s.requires.0 (left t e.before.before.before), (s.requires.1.0, s.requires.1.1, omega (arith, left t e.before.before.before), s.requires.1.3))

split-same-length-2 : (t : ℕ) → split-lts.Need-shape_of-rows-in_default (split-claims t) (split_at t) split.Post
split-same-length-2 t c = c.before.rows-in_default-1.given

split-returns-2 : (t : ℕ) → split-lts.Need-returns-in_default (split-claims t) (split_at t) split.Post
split-returns-2 t c =
    let e = c in
    let a = e.args in
    let w = whole (sizes_of a.code.now) a.blocks a.start in
    let x = cut_in a.cuts a.i in
    let d = cut-whole x.place x.number w (sym c.in_default.is ∙ c.cut_at-parts.ensures) in
    (shows c.split.result (split-whole (program_of a.code.now) x (cuts_from a.cuts (a.i + 1)) w d ∙ ap (λ xs. splits (program_of a.code.now) xs w) (sym (cuts-more a.cuts a.i (left t e.before.before.before.before.before.before)))) c.split.ensures.0, c.split.ensures.1)

-- the cut divides its cell
divided : (t : ℕ) (c : split-lts.In-Two (split-claims t) (split_at t) split.Post)
    → let a = c.args in
    Divides (cut_in a.cuts a.i).place (cut_in a.cuts a.i).number (whole (sizes_of a.code.now) a.blocks a.start) c.in-Two.lower c.in-Two.upper
divided t c =
    let a = c.args in
    cut-two (cut_in a.cuts a.i).place (cut_in a.cuts a.i).number (whole (sizes_of a.code.now) a.blocks a.start) _ _
    (sym c.in-Two.is ∙ c.cut_at-parts.ensures)

-- so the bound is the larger of the two cases
joined : (t : ℕ) (c : split-lts.In-Two (split-claims t) (split_at t) split.Post)
    → let a = c.args in
    let x = cut_in a.cuts a.i in
    let w = whole (sizes_of a.code.now) a.blocks a.start in
    larger (splits (program_of a.code.now) (cuts_from a.cuts (a.i + 1)) (below x.place x.number w)) (splits (program_of a.code.now) (cuts_from a.cuts (a.i + 1)) (from x.place x.number w))
    ≡ splits (program_of a.code.now) (cuts_from a.cuts a.i) w
joined t c =
    let e = c in
    let a = e.args in
    let w = whole (sizes_of a.code.now) a.blocks a.start in
    split-two (program_of a.code.now) (cut_in a.cuts a.i) (cuts_from a.cuts (a.i + 1)) w (divided t c).divided
    ∙ ap (λ xs. splits (program_of a.code.now) xs w) (sym (cuts-more a.cuts a.i (left t e.before.before)))

split-case-at-requires : (t : ℕ) → split-lts.Need-case_at-below-requires (split-claims t) (split_at t) split.Post
split-case-at-requires t c κs =
    let e = c in
    let s = e in
    let x = s.requires.1.0 in
    (x.program, x.formed, s.requires.1.1, left t e.before.before, (divided t c).there)

split-add-split-2 : (t : ℕ) → split-lts.Need-overflow_add-i-2 (split-claims t) (split_at t) split.Post
split-add-split-2 t c =
    let e = c in
    omega (arith, left t e.before.before.before.before.before, e.requires.1.1.count)

split-split-requires-2 : (t : ℕ) → split-lts.Need-split-first-requires (split-claims t) (split_at t) split.Post
split-split-requires-2 t c κs =
    let k = c in
    let e = k in
    let s = e in
    (less _ _ t s.requires.0 (left t e.before.before.before.before.before.before), (lower-case s.requires.1.0 (divided t k.before.before.before.before) c.case_at-below.ensures, s.requires.1.1, omega (arith, left t e.before.before.before.before.before.before), s.requires.1.3))

split-enum-told-2 : (t : ℕ) → split-lts.Need-enum_told-in-Ok (split-claims t) (split_at t) split.Post
split-enum-told-2 t c = search rules

split-enum-told-3 : (t : ℕ) → split-lts.Need-enum_told-in_default-verdict (split-claims t) (split_at t) split.Post
split-enum-told-3 t c = search rules

split-same-length-3 : (t : ℕ) → split-lts.Need-shape_of-rows-in_default-verdict (split-claims t) (split_at t) split.Post
split-same-length-3 t c = c.before.before.rows-2-1.given

split-returns-3 : (t : ℕ) → split-lts.Need-returns-in_default-verdict (split-claims t) (split_at t) split.Post
split-returns-3 t c =
    let k = c in
    let e = k in
    let a = e.args in
    let m = c in
    let f = m.split-first.result in
    let d = divided t k.before.before.before.before.before.before.before.before in (
      shows f (joined t k.before.before.before.before.before.before.before.before)
          (first-refused f _ _ _ c.in_default-verdict.is (shows f (ap (splits _ (cuts_from a.cuts (a.i + 1))) (m.case_at-below.ensures.is ∙ d.lower)) m.split-first.ensures.0)),
      m.split-first.ensures.1,
    )

split-case-at-requires-2 : (t : ℕ) → split-lts.Need-case_at-from-requires (split-claims t) (split_at t) split.Post
split-case-at-requires-2 t c κs =
    let k = c in
    let e = k in
    let s = e in
    let x = s.requires.1.0 in
    (x.program, x.formed, s.requires.1.1, left t e.before.before.before.before.before.before.before.before.before.before, (divided t k.before.before.before.before.before.before.before.before).there)

split-add-split-3 : (t : ℕ) → split-lts.Need-overflow_add-i-3 (split-claims t) (split_at t) split.Post
split-add-split-3 t c =
    let e = c in
    omega (arith, left t e.before.before.before.before.before.before.before.before.before.before.before.before.before, e.requires.1.1.count)

split-split-requires-3 : (t : ℕ) → split-lts.Need-split-second-requires (split-claims t) (split_at t) split.Post
split-split-requires-3 t c κs =
    let k = c in
    let e = k in
    let s = e in
    let rows = c.before.before.before.before.before.before.rows-2-1.given ∙ s.requires.1.3 in
    (less _ _ t s.requires.0 (left t e.before.before.before.before.before.before.before.before.before.before.before.before.before.before), (upper-case s.requires.1.0 (divided t k.before.before.before.before.before.before.before.before.before.before.before.before) c.case_at-from.ensures, s.requires.1.1, omega (arith, left t e.before.before.before.before.before.before.before.before.before.before.before.before.before.before), rows))

split-larger-requires : (t : ℕ) → split-lts.Need-larger-requires (split-claims t) (split_at t) split.Post
split-larger-requires t c κs = search rules

split-same-length-4 : (t : ℕ) → split-lts.Need-shape_of-rows (split-claims t) (split_at t) split.Post
split-same-length-4 t c = c.before.before.rows-3-1.given ∙ c.before.before.before.before.before.before.before.before.before.before.rows-2-1.given

split-returns-4 : (t : ℕ) → split-lts.Need-returns (split-claims t) (split_at t) split.Post
split-returns-4 t c =
    let k = c in
    let e = k in
    let a = e.args in
    let m = c in
    let n = c in
    let f = m.split-first.result in
    let g = n.split-second.result in
    let d = divided t k.before.before.before.before.before.before.before.before.before.before.before.before.before.before.before.before in
    let cuts = cuts_from a.cuts (a.i + 1) in
    let x = cut_in a.cuts a.i in
    let w = whole (sizes_of a.code.now) a.blocks a.start in
    let v = splits (program_of a.code.now) cuts (below x.place x.number w) in
    let u = splits (program_of a.code.now) cuts (from x.place x.number w) in
    let h = shows f (ap (splits _ cuts) (m.case_at-below.ensures.is ∙ d.lower)) m.split-first.ensures.0 in
    let j = shows g (ap (splits _ cuts) (n.case_at-from.ensures.is ∙ d.upper)) n.split-second.ensures.0 in (
      shows c.larger.result (joined t k.before.before.before.before.before.before.before.before.before.before.before.before.before.before.before.before) (subst (λ r. Shows r (larger v u)) (sym c.larger.ensures) (larger-shown f g v u n.in-Ok.is h j)),
      subst (Figures 1025) (sym c.larger.ensures) (larger-figures f g m.split-first.ensures.1 n.split-second.ensures.1),
    )

pub +split_spec : {M : Type 1} → statement M
+split_spec =
    close μ-split λ t.
    split-lts.spec
    (split-claims t)
    (split_at t)
    split.Post
    (split-merge-by-requires t)
    (split-same-length t)
    (split-returns t)
    (split-cut-at-requires t)
    (split-enum-known-parts t)
    (split-enum-told t)
    (split-add-split t)
    (split-split-requires t)
    (split-same-length-2 t)
    (split-returns-2 t)
    (split-case-at-requires t)
    (split-add-split-2 t)
    (split-split-requires-2 t)
    (split-enum-told-2 t)
    (split-enum-told-3 t)
    (split-same-length-3 t)
    (split-returns-3 t)
    (split-case-at-requires-2 t)
    (split-add-split-3 t)
    (split-split-requires-3 t)
    (split-larger-requires t)
    (split-same-length-4 t)
    (split-returns-4 t)
