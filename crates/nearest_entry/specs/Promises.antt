-- What is promised of the answers to a text, as statements. `proofs/Theorems` proves each by its name. (document 02, §13)
use Rattle.std.specs.Prelude.{◌≤◌, ◌++◌, ◌⊎◌, ◌≡◌}
use Rattle.refusals.specs.Library.{ℕ, length, List, map, none}
use Rattle.answers.specs.Terms.{listed, Routine, read_bound, reported, lines, cells, fields, names}
use Rattle.bound_theory.specs.Tree.{Report}
use Rattle.file_format.specs.Routine.{text_limit}
use Rattle.file_format.specs.Routine as readings
use Rattle.nearest_changes.specs.declared.Change.{Change}
use Rattle.nearest_changes.specs.Places.{positions}
use Rattle.nearest_changes.specs.Promises.{Direction, ChangeBy}
use Rattle.nearest_search.specs.Promises.{MovedFirst, NeverMoved}
use Rattle.nearest_entry.specs.Answers.{name_of, line_of, change_text, nearest_answer}
use Rattle.nearest_entry.specs.Replaced.{Under, with_value, tried}

-- the bytes name the first change that moves the bound of the routine x
abbrev pub NamesFirst : Routine → List ℕ → Type 0
NamesFirst x bytes = (q : Report) × (c : Change) × MovedFirst x.code x.budget x.start q c × (bytes ≡ line_of c)

-- the bytes are `NONE`, and no change moves it
abbrev pub SaysNone : Routine → List ℕ → Type 0
SaysNone x bytes = (q : Report) × NeverMoved x.code x.budget x.start q × (bytes ≡ change_text none)

-- every answer that is no refusal is one of the two
abbrev pub NearestKept : Type 0
NearestKept =
    (text : List ℕ) (n : ℕ) (bytes : List ℕ) → nearest_answer text n ≡ reported bytes →
    (x : Routine) × (read_bound text ≡ readings.routine x) × (NamesFirst x bytes ⊎ SaysNone x bytes)

-- "The cell's name": the places of the start, in the order of the search, have the names of lines 10 and 12, in the file's order
abbrev pub NamedInOrder : Type 0
NamedInOrder =
    (text : List ℕ) (x : Routine) → read_bound text ≡ readings.routine x →
    map name_of (positions x.start) ≡ listed (names cells) (lines text) ++ listed (names fields) (lines text)

-- so that each cell that is changed has a value under its name
abbrev pub ChangedNamed : Type 0
ChangedNamed =
    (text : List ℕ) (x : Routine) (n : ℕ) (d : Direction) (c : Change) → read_bound text ≡ readings.routine x → ChangeBy x.start n d c →
    (i : ℕ) × Under (lines text) c.place i

-- "the cell's value is changed, not the length of the text": the text with the new value under that name, where it is no longer than a text
-- may be, reads as the routine that is tried
abbrev pub TriedReads : Type 0
TriedReads =
    (text : List ℕ) (x : Routine) (n : ℕ) (d : Direction) (c : Change) (i : ℕ) → read_bound text ≡ readings.routine x → ChangeBy x.start n d c →
    Under (lines text) c.place i → length (with_value (lines text) c.place i c.value) ≤ text_limit →
    read_bound (with_value (lines text) c.place i c.value) ≡ readings.routine (tried c x)
