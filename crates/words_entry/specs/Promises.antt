-- What is promised of an import and an export together, as statements. `proofs/Theorems` proves each by its name. (document 02, §2)
use Rattle.std.specs.Prelude.{◌≤◌, ◌↔◌, ◌≡◌, Ok}
use Rattle.refusals.specs.Library.{ℕ, ltb, length, true, List}
use Rattle.bound_theory.specs.Terms.{BadWord, bound, run}
use Rattle.answers.specs.Terms.{listed, body, Routine, routine, read_bound, read_run, reported, refused, lines, all, primitives, names}
use Rattle.merge_theory.specs.Merge.{merged}
use Rattle.file_format.specs.Routine.{first_address}
use Rattle.words.specs.Words.{words_of}
use Rattle.words.specs.Import.{primitives_verdict, primitives_of}
use Rattle.words_inverse.specs.Sections.{code_section, replaced, primitives_line}
use Rattle.relocation_theory.specs.Raised.{raise_verdict}
use Rattle.words_entry.specs.Answers.{conversion_limit, import_answer, export_answer}
use Rattle.words_entry.specs.Faults.{AtFault, WrongOffset, Decides}
use Rattle.words_entry.specs.Meant.{code_meant}

-- "a routine whose addresses begin at 0"
abbrev pub BeginsAtZero : List ℕ → Type 0
BeginsAtZero text = first_address (body (lines text)) ≡ 0

-- "Exporting and importing a routine whose addresses begin at 0 brings back its code.": with the file's own primitives line, the bytes of
-- its lines from `AT OP ARG` to the last code line
abbrev pub ExportsImport : Type 0
ExportsImport =
    (text words : List ℕ) (n m : ℕ) → BeginsAtZero text → export_answer text n ≡ reported words → conversion_limit ≤ m →
    import_answer words (primitives_line (lines text)) m ≡ reported (code_section (lines text))

-- so that the file with the lines made in their place is the same file
abbrev pub ImportsReplace : Type 0
ImportsReplace =
    (text words made : List ℕ) (n m : ℕ) → BeginsAtZero text → export_answer text n ≡ reported words → import_answer words (primitives_line (lines text)) m ≡ reported made →
    replaced (lines text) made ≡ text

-- importing words, and exporting a file that has the lines made and the same primitives, gives back the words, which are bytes
abbrev pub ImportsExport : Type 0
ImportsExport =
    (words line made text out : List ℕ) (n m : ℕ) → all (λ b. ltb b 256) words ≡ true → import_answer words line n ≡ reported made →
    code_section (lines text) ≡ made → listed (names primitives) (lines text) ≡ primitives_of line → export_answer text m ≡ reported out → out ≡ words

-- 12 at i where, and only where, the memory is enough, the primitives line is accepted and the word at i decides
abbrev pub ImportRefusedWhere : Type 0
ImportRefusedWhere =
    (words line : List ℕ) (n i : ℕ) →
    (import_answer words line n ≡ refused (BadWord i))
    ↔ ((conversion_limit ≤ n) × (primitives_verdict line ≡ Ok tt) × Decides (length (primitives_of line)) (words_of words) i)

-- and lines are made where, and only where, there is neither a word at fault nor a wrong offset
abbrev pub ImportedWhere : Type 0
ImportedWhere =
    (words line : List ℕ) (n : ℕ) →
    ((made : List ℕ) × (import_answer words line n ≡ reported made))
    ↔ ((conversion_limit ≤ n) × (primitives_verdict line ≡ Ok tt) × ((j : ℕ) → AtFault (length (primitives_of line)) (words_of words) j → ⊥) × ((j : ℕ) → WrongOffset (words_of words) j → ⊥))

-- "An import followed by a bound gives what the written file gives", of any words: a file that passes, with the lines made in their place
-- and the same primitives, has the code that the words hold
abbrev pub ImportsMean : Type 0
ImportsMean =
    (words line made text : List ℕ) (n : ℕ) (x : Routine) → all (λ b. ltb b 256) words ≡ true → import_answer words line n ≡ reported made →
    code_section (lines text) ≡ made → listed (names primitives) (lines text) ≡ primitives_of line → read_bound text ≡ routine x →
    x.code ≡ code_meant (lines text) words

-- ---- a file that begins at another address

-- an import takes the words of a file, with its primitives line, wherever the file begins
abbrev pub ExportsTaken : Type 0
ExportsTaken =
    (text words : List ℕ) (n m : ℕ) → export_answer text n ≡ reported words → conversion_limit ≤ m →
    (made : List ℕ) × (import_answer words (primitives_line (lines text)) m ≡ reported made)

-- the file with the lines made in their place begins at address 0, and an export of it makes the same words
abbrev pub SameWords : Type 0
SameWords =
    (text words made : List ℕ) (n m k : ℕ) → export_answer text n ≡ reported words → import_answer words (primitives_line (lines text)) m ≡ reported made → conversion_limit ≤ k →
    BeginsAtZero (replaced (lines text) made) × (export_answer (replaced (lines text) made) k ≡ reported words)

-- the routines x and y have the same reports of both bounds and of the run, and the places of refusals 7, 8, 9 and 14 of y are lower by f
pub record LowerBy (f : ℕ) (x y : Routine) : Type 0 where
  pub bounds : bound x.code x.budget x.start ≡ raise_verdict f (bound y.code y.budget y.start)
  pub merges : merged x.code x.start ≡ raise_verdict f (merged y.code y.start)
  pub runs : run x.code x.budget x.start x.answers ≡ raise_verdict f (run y.code y.budget y.start y.answers)

-- "An import followed by a bound gives what the written file gives", of a file that begins at any address: the file with the lines made in
-- their place is read too, as the bounds read and as the run reads; the places are lower by the first address, and all else is the same
abbrev pub ImportsLower : Type 0
ImportsLower =
    (text words made : List ℕ) (n m : ℕ) (x : Routine) → read_bound text ≡ routine x → export_answer text n ≡ reported words →
    import_answer words (primitives_line (lines text)) m ≡ reported made →
    (y : Routine) × (read_bound (replaced (lines text) made) ≡ routine y) × (read_run text ≡ routine x → read_run (replaced (lines text) made) ≡ routine y) × LowerBy x.code.first x y
