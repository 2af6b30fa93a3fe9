-- Laws of the text of a trace: its lines, that it is a trace which no refusal meets, the steps that it records, and its length. Assumes nothing.
use Rattle.std.specs.Prelude.{None, Ok}
use Prim.Native.Nat.{ℕ, suc, ◌+◌, ◌*◌, ◌≤◌}
use mathlib.Core.Path.{◌≡◌, refl, sym, ap, ap₂, ◌∙◌}
use mathlib.Core.Bool.{true}
use mathlib.Core.List.{List, [], ◌∷◌, ◌++◌, append_assoc, map}
use native.Mathlib.Omega.{arith}
use lib.IntN.{pos, nat_abs}
use lib.ListN.{length, get_or, drop, length-append}
use borrow.Author.Tests.{lt-ltb, le-leb, leb-true}
use Rattle.text.specs.Text.{bytes, equals, line_words, Line, lines, all, lines_text}
use Rattle.text_decimals.specs.Decimal.{numeral, decimal}
use Rattle.text.proofs.TextLaws.{Every, none, more, every_append, every_map, cond-left}
use Rattle.text.proofs.LineLaws.{ended_line}
use Rattle.text_decimals.proofs.DecimalLaws.{decimal-digits, decimal-length, decimal-read}
use Rattle.numbers.specs.Numbers.{naturals, within}
use Rattle.instructions.specs.Kinds.{addresses}
use Rattle.file_format.specs.Rows.{is_numeral, value_of, value, at}
use Rattle.file_format.specs.Routine.{natural_in}
use Rattle.file_format.proofs.RangeLaws.{inside_is}
use Rattle.text.proofs.JoinLaws.{Free, text-free, split-alone, split-first, lines-of-text}
use Rattle.replay_trace.specs.Traces.{entry_limit, cycle_range, Entry, recorded_cycles, entry_laid_out, text_laid_out, line_laid_out, entry_in_range, text_in_range, line_in_range, earliest, trace_acceptance, entry_of, entries}
use Rattle.replay_trace.proofs.TraceLaws.{check-accepted}
use Rattle.trace_theory.specs.Trace.{entry_text, entries_text, trace_names, trace_text}
use Rattle.trace_theory.proofs.RecordingLaws.{Within}

-- at most 5 and 6 digits: an address, and what a step costs at the prices of a routine file
abbrev pub Ranged : Entry → Type 0
Ranged = Within 62000 196605

-- ---- a line

-- the text of a line, without its line feed
abbrev line_text : Entry → List ℕ
line_text e = decimal e.at ++ bytes " " ++ decimal e.cycles

-- no digit is c, which is below the digits
digits-free : (c : ℕ) → c ≤ 47 → (n : ℕ) → Free c (decimal n)
digits-free c h n = every_map (λ d e q. let l = leb-true 48 d (cond-left _ _ e) in omega arith) (decimal-digits n)

line-free : (e : Entry) → Free 10 (line_text e)
unfolding all
line-free e = every_append (every_append (digits-free 10 (omega arith) e.at) (text-free 10 (bytes " ") refl)) (digits-free 10 (omega arith) e.cycles)

line-words : (e : Entry) → line_words (line_text e) ≡ decimal e.at ∷ decimal e.cycles ∷ []
unfolding line_words
line-words e =
    ap line_words (append_assoc (decimal e.at) (bytes " ") (decimal e.cycles))
    ∙ split-first 32 (decimal e.cycles) (digits-free 32 (omega arith) e.at)
    ∙ ap (λ ws. decimal e.at ∷ ws) (split-alone 32 (digits-free 32 (omega arith) e.cycles))

-- a number that was written is spelt, and counts as it is
spelt : (n : ℕ) → is_numeral (numeral (decimal n)) ≡ true
unfolding is_numeral
spelt n = ap is_numeral (decimal-read n)

counts : (n : ℕ) → value (decimal n) ≡ pos n
unfolding value value_of
counts n = ap value_of (decimal-read n)

inside-range : (high n : ℕ) → n ≤ high → within (naturals 0 high) (value (decimal n)) ≡ true
inside-range high n h = rw (counts n, le-leb 0 n (omega arith), le-leb n high h) refl

natural-is : (high n : ℕ) → n ≤ high → natural_in (naturals 0 high) (decimal n) ≡ n
natural-is high n h = ap nat_abs (inside_is (naturals 0 high) (value (decimal n)) (inside-range high n h) ∙ counts n)

module _ (e : Entry) where
  at-is : at (line_text e) ≡ decimal e.at
  at-is = ap (λ ws. get_or ws 0 []) (line-words e)

  cycles-are : recorded_cycles (line_text e) ≡ decimal e.cycles
  cycles-are = ap (λ ws. get_or ws 1 []) (line-words e)

  line-laid : entry_laid_out (line_text e) ≡ true
  unfolding entry_laid_out
  line-laid = rw (line-words e, spelt e.at, spelt e.cycles) refl

  module _ (h : Ranged e) where
    line-ranged : entry_in_range (line_text e) ≡ true
    unfolding entry_in_range
    line-ranged = rw (line-words e, inside-range 62000 e.at h.at, inside-range 4000000000 e.cycles (omega (arith, h.cycles))) refl

    line_read : entry_of (line_text e) ≡ e
    unfolding entry_of
    line_read =
        ap₂ (λ a n. record { at = a; cycles = n })
        (ap (natural_in addresses) at-is ∙ natural-is 62000 e.at h.at)
        (ap (natural_in cycle_range) cycles-are ∙ natural-is 4000000000 e.cycles (omega (arith, h.cycles)))

    -- an address has at most 5 digits, and a cost at most 6
    line-short : length (entry_text e) ≤ 13
    unfolding entry_text
    line-short =
        let a = decimal-length 5 e.at (omega (arith, h.at)) (omega arith) in
        let n = decimal-length 6 e.cycles (omega (arith, h.cycles)) (omega arith) in
        simp length-append (omega arith)

-- ---- all lines

abbrev all_lines : List Entry → List Line
all_lines es = map (λ e. ended_line (line_text e)) es

lines_are : (es : List Entry) → entries_text es ≡ lines_text (all_lines es)
unfolding entries_text entry_text lines_text
lines_are [] = refl
lines_are (e ∷ es) = ap (λ t. line_text e ++ bytes "\n" ++ t) (lines_are es)

all-free : (es : List Entry) → Every (λ l. Free 10 l.text) (all_lines es)
all-free [] = none
all-free (e ∷ es) = more (line-free e) (all-free es)

ended-again : (es : List Entry) → map (λ l. ended_line l.text) (all_lines es) ≡ all_lines es
ended-again [] = refl
ended-again (e ∷ es) = ap (λ ls. ended_line (line_text e) ∷ ls) (ended-again es)

text-lines : (es : List Entry) → lines (trace_text es) ≡ ended_line (bytes "AT CYCLES") ∷ all_lines es
unfolding trace_text lines_text all
text-lines es =
    ap (λ t. lines (trace_names ++ t)) (lines_are es)
    ∙ lines-of-text (more {x = ended_line (bytes "AT CYCLES")} (text-free 10 (bytes "AT CYCLES") refl) (all-free es))
    ∙ ap (λ ls. ended_line (bytes "AT CYCLES") ∷ ls) (ended-again es)

laid : (k : ℕ) (es : List Entry) → k + length es ≤ entry_limit → earliest line_laid_out (suc k) (all_lines es) ≡ None
unfolding earliest line_laid_out text_laid_out
laid k [] h = refl
laid k (e ∷ es) h = rw (lt-ltb k entry_limit (omega arith), line-laid e) (laid (suc k) es (omega arith))

ranged : (k : ℕ) {es : List Entry} → Every Ranged es → earliest line_in_range (suc k) (all_lines es) ≡ None
unfolding earliest line_in_range text_in_range
ranged k none = refl
ranged k (more {x = e} h hs) = rw (line-ranged e h) (ranged (suc k) hs)

entries-short : {es : List Entry} → Every Ranged es → length (entries_text es) ≤ 13 * length es
unfolding entries_text
entries-short none = omega arith
entries-short (more {x = e} {xs = es} h hs) = omega (arith, length-append (entry_text e) (entries_text es), line-short e h, entries-short hs)

read_again : {es : List Entry} → Every Ranged es → map (λ l. entry_of l.text) (all_lines es) ≡ es
read_again none = refl
read_again (more {x = e} h hs) = ap₂ (λ x xs. x ∷ xs) (line_read e h) (read_again hs)

module _ {es : List Entry} (h : Every Ranged es) where
  pub text-short : length (trace_text es) ≤ 10 + 13 * length es
  unfolding trace_text
  text-short = omega (arith, length-append trace_names (entries_text es), entries-short h)

  pub text-some : 1 ≤ length (trace_text es)
  unfolding trace_text
  text-some = omega (arith, length-append trace_names (entries_text es))

  pub text-read : entries (trace_text es) ≡ es
  unfolding entries
  text-read = ap (λ ls. map (λ l. entry_of l.text) (drop 1 ls)) (text-lines es) ∙ read_again h

  pub text-accepted : length es ≤ entry_limit → trace_acceptance (trace_text es) ≡ Ok tt
  unfolding earliest equals line_laid_out text_laid_out line_in_range text_in_range
  text-accepted few =
      sym
      (check-accepted (trace_text es) (omega (arith, text-short)) (λ z. omega (arith, text-some))
      (ap (earliest line_laid_out 0) (text-lines es) ∙ laid 0 es (omega arith))
      (ap (earliest line_in_range 0) (text-lines es) ∙ ranged 0 h))
