-- Worked examples of the import and the export, by computation: the published routine of document 01, and refusals with their places.
-- Assumes nothing.
use Rattle.std.specs.Prelude.{Err, Ok}
use mathlib.Core.Path.{◌≡◌, refl}
use mathlib.Core.List.{List, [], ◌∷◌, ◌++◌}
use Prim.Native.Nat.{ℕ}
use lib.IntN.{pos}
use Rattle.refusals.specs.declared.Refusal.TheVariants.{Layout, BadName, BadWord}
use Rattle.text.specs.Text as text
use Rattle.text_decimals.specs.Decimal as decimals
use Rattle.instructions.specs.Kinds as table
use Rattle.instructions.specs.Opcodes as opcodes
use Rattle.file_format.specs.Layout as layout
use Rattle.file_format.specs.Rows as rows
use Rattle.words.specs.Words as words
use Rattle.words.specs.Decoding as decoding
use Rattle.words.specs.Lines as lines
use Rattle.words.specs.Import.{import_verdict, import_text}
use Rattle.words.specs.Import as import-of
use Rattle.words.specs.Export.{Op, export_ops}
use Rattle.words.specs.Export as export-of

-- C_CALL1 0, BRANCHIF 3 words on, CONST2, ADDINT, STOP
pub published : List ℕ
published = words.all_bytes (93 ∷ 0 ∷ 85 ∷ 3 ∷ 101 ∷ 110 ∷ 143 ∷ [])

-- a code line
pub op : ℕ → ℕ → Op
op k v = record { kind = k; value = pos v }

-- each row by computation, with one proof
abbrev pub Examples : Type 0
Examples =
    -- the lines that they are imported to
    (import_text published (text.bytes "READ\n") ≡ text.bytes "AT OP ARG\n0 C_CALL1 READ\n1 BRANCHIF 4\n2 CONST2 -\n3 ADDINT -\n4 STOP -\n")
    -- the same as an export of these code lines
    × (export_ops (op 55 0 ∷ op 53 4 ∷ op 23 0 ∷ op 34 0 ∷ op 60 0 ∷ []) ≡ published)
    -- no word at all: place 0
    × (import_verdict ([]) (text.bytes "READ") ≡ Err (BadWord 0))
    -- an opcode outside the 61 kinds, after a branch to nowhere: offsets are looked at last
    × (import_verdict (words.all_bytes (84 ∷ 9 ∷ 144 ∷ [])) (text.bytes "READ") ≡ Err (BadWord 2))
    -- a cut-off argument counts at its opcode
    × (import_verdict (words.all_bytes (143 ∷ 8 ∷ []) ++ (1 ∷ 0 ∷ [])) (text.bytes "READ") ≡ Err (BadWord 1))
    -- a cut-off word, at the index that it would have
    × (import_verdict (words.all_bytes (143 ∷ []) ++ (143 ∷ [])) (text.bytes "READ") ≡ Err (BadWord 1))
    -- a place that is not on the primitives line, at the argument word
    × (import_verdict (words.all_bytes (93 ∷ 1 ∷ [])) (text.bytes "READ") ≡ Err (BadWord 1))
    -- an offset just past the last word is outside
    × (import_verdict (words.all_bytes (84 ∷ 1 ∷ [])) (text.bytes "READ") ≡ Err (BadWord 1))
    -- an offset to its own word lands inside an instruction
    × (import_verdict (words.all_bytes (84 ∷ 0 ∷ [])) (text.bytes "READ") ≡ Err (BadWord 1))
    -- an offset of -1 leads to its own opcode
    × (import_verdict (words.all_bytes (84 ∷ 4294967295 ∷ [])) (text.bytes "READ") ≡ Ok tt)
    -- an empty primitives line
    × (import_verdict (published) (text.bytes "") ≡ Err (Layout 1))
    -- a name that stands twice
    × (import_verdict (published) (text.bytes "READ READ") ≡ Err (BadName 1))
    -- a line feed elsewhere
    × (import_verdict (published) (text.bytes "READ\n-") ≡ Err (Layout 1))

pub examples : Examples
unfolding published text.equals text.parted_by text.line_words text.lines_of text.lines decimals.digits decimals.decimal table.kinds table.opcodes table.kind_at opcodes.place_from opcodes.kind_coded layout.list words.words_of words.bytes_of words.all_bytes decoding.coded decoding.decoded_words decoding.decoded decoding.items decoding.number_at decimals.integer lines.argument_text lines.line_text lines.lines_from lines.code_text import-of.primitives_of import-of.import_text op decoding.size_of export-of.positions export-of.argument_word export-of.items_from export-of.item_words export-of.words_in export-of.export_ops text.among text.all text.distinct rows.is_name rows.names_laid_out rows.well_named decoding.is_place decoding.call_listed decoding.fault_from decoding.word_fault decoding.lands decoding.offset_fault decoding.or_offsets decoding.code_fault import-of.line_laid_out import-of.line_verdict import-of.one_line_verdict import-of.primitives_verdict import-of.fault_verdict import-of.both import-of.import_verdict
examples = (refl, refl, refl, refl, refl, refl, refl, refl, refl, refl, refl, refl, refl)
