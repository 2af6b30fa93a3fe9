-- Laws of what is decided and of its two lines: what a word stands for, and that they fit 128 bytes. Assumes nothing.
use Prim.Native.Nat.{ℕ, ◌+◌, ◌≤◌, ◌<◌}
use mathlib.Core.Path.{◌≡◌, refl, sym, ap, ◌∙◌}
use mathlib.Core.Bool.{Bool, true, false}
use mathlib.Core.List.{List, ◌++◌}
use mathlib.Core.Logic.{◌⊎◌, inl, inr}
use native.Mathlib.Omega.{arith}
use lib.Dec.{ltb}
use lib.ListN.{length, get_or, length-append}
use borrow.Author.Tests.{lt-ltb, le-ltb, ltb-true, ltb-false}
use Rattle.text.specs.Text.{bytes}
use Rattle.text_decimals.proofs.DecimalLaws.{decimal-length}
use Rattle.bound_theory.specs.Tree.{Report}
use Rattle.report.specs.Report.{space}
use Rattle.report.proofs.ReportLaws.{Small}
use Rattle.decide_report.specs.declared.Source.{Source}
use Rattle.decide_report.specs.declared.Source.TheVariants.{First, Merging, Split}
use Rattle.decide_report.specs.Decision.{Ruling, fits, over, undecided, ruling, ruling_word, source_word, decision_names, decision_words, decision_text, Says}

-- ---- what is decided

pub ruled-fits : (s : Source) (tick cycles : ℕ) → ruling s tick cycles ≡ fits → cycles ≤ tick
unfolding ruling
ruled-fits s tick cycles = go s (ltb tick cycles) refl
  where
    go : (s : Source) (b : Bool) → ltb tick cycles ≡ b → ruling s tick cycles ≡ fits → cycles ≤ tick
    go s false e h = ltb-false tick cycles e
    go First true e h = let z : over ≡ fits = rw e at h in let k : ◌≡◌ {A = ℕ} 0 1 = cc in absurd (omega arith)
    go Merging true e h = let z : undecided ≡ fits = rw e at h in let k : ◌≡◌ {A = ℕ} 0 1 = cc in absurd (omega arith)
    go Split true e h = let z : undecided ≡ fits = rw e at h in let k : ◌≡◌ {A = ℕ} 0 1 = cc in absurd (omega arith)

pub ruled-over : (s : Source) (tick cycles : ℕ) → ruling s tick cycles ≡ over → (s ≡ First) × (tick < cycles)
unfolding ruling
ruled-over s tick cycles = go s (ltb tick cycles) refl
  where
    go : (s : Source) (b : Bool) → ltb tick cycles ≡ b → ruling s tick cycles ≡ over → (s ≡ First) × (tick < cycles)
    go First true e h = (refl, ltb-true tick cycles e)
    go First false e h = let z : fits ≡ over = rw e at h in let k : ◌≡◌ {A = ℕ} 0 1 = cc in absurd (omega arith)
    go Merging true e h = let z : undecided ≡ over = rw e at h in let k : ◌≡◌ {A = ℕ} 0 1 = cc in absurd (omega arith)
    go Merging false e h = let z : fits ≡ over = rw e at h in let k : ◌≡◌ {A = ℕ} 0 1 = cc in absurd (omega arith)
    go Split true e h = let z : undecided ≡ over = rw e at h in let k : ◌≡◌ {A = ℕ} 0 1 = cc in absurd (omega arith)
    go Split false e h = let z : fits ≡ over = rw e at h in let k : ◌≡◌ {A = ℕ} 0 1 = cc in absurd (omega arith)

pub ruled-undecided : (s : Source) (tick cycles : ℕ) → ruling s tick cycles ≡ undecided → ((s ≡ Merging) ⊎ (s ≡ Split)) × (tick < cycles)
unfolding ruling
ruled-undecided s tick cycles = go s (ltb tick cycles) refl
  where
    go : (s : Source) (b : Bool) → ltb tick cycles ≡ b → ruling s tick cycles ≡ undecided → ((s ≡ Merging) ⊎ (s ≡ Split)) × (tick < cycles)
    go Merging true e h = (inl refl, ltb-true tick cycles e)
    go Merging false e h = let z : fits ≡ undecided = rw e at h in let k : ◌≡◌ {A = ℕ} 0 1 = cc in absurd (omega arith)
    go Split true e h = (inr refl, ltb-true tick cycles e)
    go Split false e h = let z : fits ≡ undecided = rw e at h in let k : ◌≡◌ {A = ℕ} 0 1 = cc in absurd (omega arith)
    go First true e h = let z : over ≡ undecided = rw e at h in let k : ◌≡◌ {A = ℕ} 0 1 = cc in absurd (omega arith)
    go First false e h = let z : fits ≡ undecided = rw e at h in let k : ◌≡◌ {A = ℕ} 0 1 = cc in absurd (omega arith)

-- ---- the word under the line of names

-- its first letter, which tells it
letter_of : Ruling → ℕ
letter_of fits = 70
letter_of over = 79
letter_of undecided = 85

letter-said : (d : Ruling) (rest : List ℕ) → get_or (decision_names ++ ruling_word d ++ space ++ rest) 45 0 ≡ letter_of d
unfolding ruling_word letter_of
letter-said fits rest = refl
letter-said over rest = refl
letter-said undecided rest = refl

letter-printed : (s : Source) (tick : ℕ) (q : Report) (d : Ruling) → ruling s tick q.cycles ≡ d → get_or (decision_text s tick q) 45 0 ≡ letter_of d
unfolding decision_text decision_words ruling_word letter_of
letter-printed s tick q fits e = rw e refl
letter-printed s tick q over e = rw e refl
letter-printed s tick q undecided e = rw e refl

letter-tells : (d e : Ruling) → letter_of d ≡ letter_of e → d ≡ e
unfolding letter_of
letter-tells fits fits h = refl
letter-tells over over h = refl
letter-tells undecided undecided h = refl
letter-tells fits over h = absurd (omega arith)
letter-tells fits undecided h = absurd (omega arith)
letter-tells over fits h = absurd (omega arith)
letter-tells over undecided h = absurd (omega arith)
letter-tells undecided fits h = absurd (omega arith)
letter-tells undecided over h = absurd (omega arith)

-- bytes that say a decision say the one that was made
pub says-ruling : (s : Source) (tick : ℕ) (q : Report) (d : Ruling) (bs : List ℕ) → bs ≡ decision_text s tick q → Says d bs → ruling s tick q.cycles ≡ d
says-ruling s tick q d bs e (rest, f) =
    letter-tells (ruling s tick q.cycles) d (sym (letter-printed s tick q _ refl) ∙ ap (λ (l : List ℕ). get_or l 45 0) (sym e ∙ f) ∙ letter-said d rest)

-- ---- the two words, as the code writes them

module _ (s : Source) (tick cycles : ℕ) where
  pub words-over : s ≡ First → tick < cycles → decision_words s tick cycles ≡ bytes "OVER FIRST"
  unfolding decision_words ruling ruling_word source_word
  words-over e h = rw (e, lt-ltb tick cycles h) refl

  pub words-fit-first : s ≡ First → cycles ≤ tick → decision_words s tick cycles ≡ bytes "FITS FIRST"
  unfolding decision_words ruling ruling_word source_word
  words-fit-first e h = rw (e, le-ltb tick cycles h) refl

  pub words-undecided : s ≡ Merging → tick < cycles → decision_words s tick cycles ≡ bytes "UNDECIDED MERGING"
  unfolding decision_words ruling ruling_word source_word
  words-undecided e h = rw (e, lt-ltb tick cycles h) refl

  pub words-fit-merging : s ≡ Merging → cycles ≤ tick → decision_words s tick cycles ≡ bytes "FITS MERGING"
  unfolding decision_words ruling ruling_word source_word
  words-fit-merging e h = rw (e, le-ltb tick cycles h) refl

  pub words-undecided-split : s ≡ Split → tick < cycles → decision_words s tick cycles ≡ bytes "UNDECIDED SPLIT"
  unfolding decision_words ruling ruling_word source_word
  words-undecided-split e h = rw (e, lt-ltb tick cycles h) refl

  pub words-fit-split : s ≡ Split → cycles ≤ tick → decision_words s tick cycles ≡ bytes "FITS SPLIT"
  unfolding decision_words ruling ruling_word source_word
  words-fit-split e h = rw (e, le-ltb tick cycles h) refl

-- ---- its length

ruling-length : (d : Ruling) → length (ruling_word d) ≤ 9
unfolding ruling_word
ruling-length fits = omega arith
ruling-length over = omega arith
ruling-length undecided = omega arith

source-length : (s : Source) → length (source_word s) ≤ 7
unfolding source_word
source-length First = omega arith
source-length Merging = omega arith
source-length Split = omega arith

pub decision-fits : (s : Source) (tick : ℕ) (q : Report) → tick ≤ 4000000000 → Small tick q → length (decision_text s tick q) ≤ 128
unfolding decision_text decision_words
decision-fits s tick q h k =
    let a = ruling-length (ruling s tick q.cycles) in
    let b = source-length s in
    let c = decimal-length 12 q.cycles k.cycles (omega arith) in
    let t = decimal-length 10 tick (omega arith) (omega arith) in
    let w = decimal-length 9 q.words k.words (omega arith) in
    let d = decimal-length 2 q.depth k.depth (omega arith) in
    let n = decimal-length 7 q.steps k.steps (omega arith) in
    simp length-append (omega arith)

pub decision-some : (s : Source) (tick : ℕ) (q : Report) → 1 ≤ length (decision_text s tick q)
unfolding decision_text
decision-some s tick q = omega arith
