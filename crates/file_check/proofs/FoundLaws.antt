-- What the rows look at, as the code finds it in a text. Assumes nothing.
use Rattle.std.specs.Prelude.{None}
use Prim.Native.Nat.{ℕ, ◌≤◌, min}
use mathlib.Core.Path.{◌≡◌, ap, ◌∙◌}
use mathlib.Core.List.{List}
use native.Mathlib.Omega.{arith}
use lib.IntN.{pos}
use lib.ListN.{length, take, length-take}
use Rattle.text.specs.Text.{Line, lines}
use Rattle.file_format.specs.declared.Section.TheVariants.{Kinds as kinds, Primitives as primitives, Fields as fields}
use Rattle.file_format.specs.declared.Role.TheVariants.{Names as names}
use Rattle.file_format.specs.declared.Row.TheVariants.{Range as range-row}
use Rattle.file_format.specs.Layout.{layout, body, lines_of_code, list, text_at, listed}
use Rattle.file_format.specs.Rows.{block_sizes, first_at, refused_line}
use Rattle.file_format.specs.Routine.{first_address}
use Rattle.file_format.proofs.PassingLaws.{first-natural, first_small}
use Rattle.file_format.proofs.PassingLaws as passing
use Rattle.file_names.specs.declared.Blocks.{Blocks}
use Rattle.file_names.specs.HeldNames.{BlocksOf}
use Rattle.file_check.specs.HeldScan.{Context}

-- as many blocks as sizes are held
block-count : (ns : List ℕ) (b : Blocks) → BlocksOf ns b → length b.sizes ≡ 8 → b.count ≡ length ns
block-count ns b h e =
    let k : length (take b.count b.sizes) ≡ min b.count (length b.sizes) = length-take b.count b.sizes in
    let s : length (take b.count b.sizes) ≡ length ns = ap length h.sizes in
    let f = h.few in
    omega arith

module _ (text ks ps fs rest : List ℕ) (short : length text ≤ 32768) (k : ks ≡ text_at (names kinds) layout (lines text)) (p : ps ≡ text_at (names primitives) layout (lines text))
    (f : fs ≡ text_at (names fields) layout (lines text)) (b : Blocks) (held : BlocksOf (block_sizes (list fs)) b) (eight : length b.sizes ≡ 8)
    (left : lines rest ≡ body (lines text)) (first count : ℕ) (address : first ≡ first_address (lines rest)) (counted : count ≡ length (lines_of_code (lines rest))) where
  code-count : count ≡ length (lines_of_code (body (lines text)))
  code-count = counted ∙ ap (λ ls. length (lines_of_code ls)) left

  pub context-found : Context (lines text) ks ps b.count first count
  unfolding listed
  context-found = record {
    kinds_line = k;
    primitives_line_is = p;
    blocks_named = block-count (block_sizes (list fs)) b held eight ∙ ap (λ t. length (block_sizes (list t))) f;
    few_blocks = held.few;
    address_first = address ∙ ap first_address left;
    code_lines = code-count;
    few_lines = let m = passing.code-count text in let e = code-count in omega arith;
  }

-- once row 3 refuses nothing, the first address is the number that the first AT spells
module _ {ls : List Line} {ks ps : List ℕ} {blocks first count : ℕ} (x : Context ls ks ps blocks first count) (range : refused_line range-row ls ≡ None) where
  pub address_is : pos first ≡ first_at (body ls)
  address_is = ap pos x.address_first ∙ first-natural ls range

-- and it is in its range in any case
pub address-low : {ls : List Line} {ks ps : List ℕ} {blocks first count : ℕ} → Context ls ks ps blocks first count → first ≤ 60000
address-low {ls} x = rw x.address_first (first_small (first_at (body ls)))
