-- The words that an import refuses by 12, each under the words that name it. (document 02, §2)
use Rattle.std.specs.Prelude.{◌≤◌, ◌<◌, ◌⊎◌, ◌≡◌}
use Rattle.refusals.specs.Library.{ℕ, suc, pos, List, []}
use Rattle.machine.specs.Terms.{done, Target, Primitive, kind_at, nth}
use Rattle.words.specs.Words.{Word}
use Rattle.words.specs.Decoding.{Item, item, unreadable, decoded, landing}

-- instruction k of the words is x, counted from 0
abbrev pub InstructionAt : List Word → ℕ → Item → Type 0
InstructionAt ws k x = nth k (decoded ws) ≡ done (item x)

-- "for no word at all"; "with no word at all the place is 0"
abbrev pub NoWord : List Word → ℕ → Type 0
NoWord ws i = (ws ≡ []) × (i ≡ 0)

-- "an opcode outside the 61 kinds, a cut-off word or argument"; "A cut-off argument counts at its opcode."
pub record Unread (ws : List Word) (i : ℕ) : Type 0 where
  pub place : ℕ
  pub there : nth place (decoded ws) ≡ done (unreadable i)

-- "a primitive's place not on its line", where the line has n names: at its argument word
pub record Unlisted (n : ℕ) (ws : List Word) (i : ℕ) : Type 0 where
  pub place : ℕ
  pub call : Item
  pub there : InstructionAt ws place call
  pub calls : (kind_at call.kind).argument ≡ Primitive
  pub outside : (k : ℕ) → k < n → call.argument ≡ pos k → ⊥
  pub argued : i ≡ suc call.index

-- "a 1,025th instruction", or one after it: at its opcode
pub record Beyond (ws : List Word) (i : ℕ) : Type 0 where
  pub place : ℕ
  pub instruction : Item
  pub there : InstructionAt ws place instruction
  pub many : 1024 ≤ place
  pub coded : i ≡ instruction.index

-- one of these at index i, where n primitives are listed
abbrev pub AtFault : ℕ → List Word → ℕ → Type 0
AtFault n ws i = NoWord ws i ⊎ (Unread ws i ⊎ (Unlisted n ws i ⊎ Beyond ws i))

-- "an offset that lands inside an instruction or outside the words": on the opcode of none, at its own word
pub record WrongOffset (ws : List Word) (i : ℕ) : Type 0 where
  pub place : ℕ
  pub branch : Item
  pub there : InstructionAt ws place branch
  pub branches : (kind_at branch.kind).argument ≡ Target
  pub nowhere : (k : ℕ) (y : Item) → InstructionAt ws k y → pos y.index ≡ landing branch → ⊥
  pub argued : i ≡ suc branch.index

-- "The earliest such word decides, and the place is its index from 0"
pub record Earliest (P : ℕ → Type 0) (i : ℕ) : Type 0 where
  pub there : P i
  pub before : (j : ℕ) → P j → i ≤ j

-- "Offsets are looked at only when none of the others is found."
abbrev pub Decides : ℕ → List Word → ℕ → Type 0
Decides n ws i = Earliest (AtFault n ws) i ⊎ (((j : ℕ) → AtFault n ws j → ⊥) × Earliest (WrongOffset ws) i)
