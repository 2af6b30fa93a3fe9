-- Worked examples of traces, by computation: an accepted one with its steps, and refusals with their places. Assumes nothing.
use Rattle.std.specs.Prelude.{Err, Ok}
use mathlib.Core.Path.{◌≡◌, refl}
use mathlib.Core.List.{[], ◌∷◌}
use Prim.Native.Nat.{ℕ}
use Rattle.refusals.specs.declared.Refusal.TheVariants.{Layout, OutOfRange}
use Rattle.text.specs.Text.{bytes}
use Rattle.text.specs.Text as text
use Rattle.text_decimals.specs.Decimal as decimals
use Rattle.file_format.specs.Rows as rows
use Rattle.file_format.specs.Routine as routines
use Rattle.replay_trace.specs.Traces.{Entry, entries, trace_acceptance}
use Rattle.replay_trace.specs.Traces as traces

-- a step
pub entry : ℕ → ℕ → Entry
entry a n = record { at = a; cycles = n }

-- each row by computation, with one proof
abbrev pub Examples : Type 0
Examples =
    -- the names line alone
    (trace_acceptance (bytes "AT CYCLES\n") ≡ Ok tt)
    -- both ends of both ranges
    × (trace_acceptance (bytes "AT CYCLES\n0 4000000000\n62000 0\n") ≡ Ok tt)
    -- and the steps recorded there
    × (entries (bytes "AT CYCLES\n0 4000000000\n62000 0\n") ≡ entry 0 4000000000 ∷ entry 62000 0 ∷ [])
    -- no line at all
    × (trace_acceptance (bytes "") ≡ Err (Layout 1))
    -- a names line with other names
    × (trace_acceptance (bytes "AT OP ARG\n0 1\n") ≡ Err (Layout 1))
    -- a names line that no line feed ends
    × (trace_acceptance (bytes "AT CYCLES") ≡ Err (Layout 1))
    -- a last line that no line feed ends
    × (trace_acceptance (bytes "AT CYCLES\n0 1\n1 1") ≡ Err (Layout 3))
    -- an empty line
    × (trace_acceptance (bytes "AT CYCLES\n\n") ≡ Err (Layout 2))
    -- one word
    × (trace_acceptance (bytes "AT CYCLES\n0\n") ≡ Err (Layout 2))
    -- a third word
    × (trace_acceptance (bytes "AT CYCLES\n0 1 2\n") ≡ Err (Layout 2))
    -- two spaces
    × (trace_acceptance (bytes "AT CYCLES\n0  1\n") ≡ Err (Layout 2))
    -- no number is spelt so
    × (trace_acceptance (bytes "AT CYCLES\n0 -0\n") ≡ Err (Layout 2))
    -- AT past its range, and below it
    × (trace_acceptance (bytes "AT CYCLES\n62001 1\n") ≡ Err (OutOfRange 2))
    × (trace_acceptance (bytes "AT CYCLES\n0 1\n-1 1\n") ≡ Err (OutOfRange 3))
    -- CYCLES past its range
    × (trace_acceptance (bytes "AT CYCLES\n0 4000000001\n") ≡ Err (OutOfRange 2))
    -- a number out of range on line 2, a wrong layout on line 3: 2 is checked first
    × (trace_acceptance (bytes "AT CYCLES\n62001 1\n0\n") ≡ Err (Layout 3))

pub examples : Examples
unfolding entry text.equals text.parted_by text.line_words text.lines_of text.lines decimals.digits_from decimals.natural decimals.numeral rows.is_numeral rows.value_of rows.value routines.inside traces.entry_laid_out traces.text_laid_out traces.line_laid_out traces.entry_in_range traces.text_in_range traces.line_in_range traces.earliest traces.layout_fault traces.range_fault traces.refused_at traces.line_verdict traces.trace_acceptance traces.entry_of traces.entries
examples = (refl, refl, refl, refl, refl, refl, refl, refl, refl, refl, refl, refl, refl, refl, refl, refl)
