-- Laws of a code line as the five words that a program has for it. Assumes nothing.
use Rattle.std.specs.Prelude.{Option}
use Prim.Native.Nat.{ℕ, ◌+◌, ◌*◌, ◌%◌, ◌<◌, ◌≤◌}
use mathlib.Core.Path.{◌≡◌, refl, sym, ap, ap₂, subst, ◌∙◌}
use mathlib.Core.Bool.{Bool, true, false, cond}
use mathlib.Core.List.{List, [], ◌∷◌, ◌++◌, map}
use native.Mathlib.Omega.{arith}
use native.Mathlib.Numerals.{add-one}
use lib.Dec.{leb, ltb}
use lib.IntN.{ℤ}
use lib.ListN.{length, get_or, take, set, length-map, length-set}
use lib.Seq.{take-suc, get_or-set_same, get_or-set_other}
use borrow.Author.Tests.{le-leb, lt-leb, ltb-true, ltb-false}
use Rattle.text.specs.Text.{place_among, index_of, find, Line, no_line}
use Rattle.numbers.specs.declared.Comparison.TheVariants.{Equal, Unequal, Less, AtMost, Greater, AtLeast}
use Rattle.numbers.specs.declared.Range.{Range}
use Rattle.numbers.specs.Numbers.{numbers, signed}
use Rattle.cells.specs.declared.Unary.TheVariants.{Offset, Negate, Complement}
use Rattle.cells.specs.declared.Binary.TheVariants.{Add, Subtract, Compare}
use Rattle.instructions.specs.declared.Argument.{Argument}
use Rattle.instructions.specs.declared.Argument.TheVariants.{Absent, Target, Primitive, Within}
use Rattle.instructions.specs.declared.Operation.{Operation}
use Rattle.instructions.specs.declared.Operation.TheVariants.{Nothing, Access, Drop, Assign, Constant, GetField, SetField, Branch, BranchIf, BranchIfNot, Call, Stop, Alter, Combine}
use Rattle.instructions.specs.Kinds.{Kind, kind_names, operand, calls, addresses, kind_at}
use Rattle.instructions.specs.HeldColumns.{operation_code, unary_code, binary_code, comparison_code, operations, operation_of}
use Rattle.machine.specs.Machine.{Price, Instruction, instruction, price_of}
use Rattle.machine_state.specs.declared.code.Line.{Line as Held}
use Rattle.machine_state.specs.HeldProgram.{line, line_at, line_of, lines_from}
use Rattle.machine_state.proofs.ProgramLaws.{lines_snoc, lines-agree}
use Rattle.file_format.specs.Rows.{op, arg, value, cycle_counts, word_counts, extra_counts}
use Rattle.file_format.specs.Routine.{inside, natural_at, PriceList, prices, argument_value, instruction_of}
use Rattle.file_format.proofs.RangeLaws.{natural-inside}
use Rattle.file_values.specs.HeldValues.{NaturalRange}
use Rattle.file_parts.specs.HeldParts.{PriceRange, Coded, put_line}

-- where a word is found, as an index
pub found : (ws : List (List ℕ)) (w v : List ℕ) (p : Option ℕ) {k : ℕ} → k ≡ index_of p → p ≡ place_among w ws → w ≡ v → k ≡ find v ws
unfolding find
found ws w v p i e q = i ∙ ap index_of e ∙ ap (λ u. index_of (place_among u ws)) q

-- an operation by its code

operation-is : (o : Operation) → operation_of (operation_code o) ≡ o
unfolding operation_of operations operation_code unary_code binary_code comparison_code
operation-is Nothing = refl
operation-is Access = refl
operation-is Drop = refl
operation-is Assign = refl
operation-is Constant = refl
operation-is GetField = refl
operation-is SetField = refl
operation-is Branch = refl
operation-is BranchIf = refl
operation-is BranchIfNot = refl
operation-is Call = refl
operation-is Stop = refl
operation-is (Alter Offset) = refl
operation-is (Alter Negate) = refl
operation-is (Alter Complement) = refl
operation-is (Combine Add) = refl
operation-is (Combine Subtract) = refl
operation-is (Combine (Compare Equal)) = refl
operation-is (Combine (Compare Unequal)) = refl
operation-is (Combine (Compare Less)) = refl
operation-is (Combine (Compare AtMost)) = refl
operation-is (Combine (Compare Greater)) = refl
operation-is (Combine (Compare AtLeast)) = refl

pub operation-small : (o : Operation) → operation_code o ≤ 22
unfolding operation_code unary_code binary_code comparison_code
operation-small Nothing = omega arith
operation-small Access = omega arith
operation-small Drop = omega arith
operation-small Assign = omega arith
operation-small Constant = omega arith
operation-small GetField = omega arith
operation-small SetField = omega arith
operation-small Branch = omega arith
operation-small BranchIf = omega arith
operation-small BranchIfNot = omega arith
operation-small Call = omega arith
operation-small Stop = omega arith
operation-small (Alter Offset) = omega arith
operation-small (Alter Negate) = omega arith
operation-small (Alter Complement) = omega arith
operation-small (Combine Add) = omega arith
operation-small (Combine Subtract) = omega arith
operation-small (Combine (Compare Equal)) = omega arith
operation-small (Combine (Compare Unequal)) = omega arith
operation-small (Combine (Compare Less)) = omega arith
operation-small (Combine (Compare AtMost)) = omega arith
operation-small (Combine (Compare Greater)) = omega arith
operation-small (Combine (Compare AtLeast)) = omega arith

-- an entry of the column of codes

pub cond-most : (b : Bool) {n x : ℕ} → x ≡ cond b n 0 → x ≤ n
cond-most true e = omega arith
cond-most false e = omega arith

entry-parts : (n : ℕ) → n ≤ 22 → (p c : Bool) →
    ((n + cond p 32 0 + cond c 64 0) % 32 ≡ n) × (leb 32 ((n + cond p 32 0 + cond c 64 0) % 64) ≡ p) × (leb 64 (n + cond p 32 0 + cond c 64 0) ≡ c)
entry-parts n h true true = (omega arith, le-leb 32 ((n + 32 + 64) % 64) (omega arith), le-leb 64 (n + 32 + 64) (omega arith))
entry-parts n h true false = (omega arith, le-leb 32 ((n + 32 + 0) % 64) (omega arith), lt-leb 64 (n + 32 + 0) (omega arith))
entry-parts n h false true = (omega arith, lt-leb 32 ((n + 0 + 64) % 64) (omega arith), le-leb 64 (n + 0 + 64) (omega arith))
entry-parts n h false false = (omega arith, lt-leb 32 ((n + 0 + 0) % 64) (omega arith), lt-leb 64 (n + 0 + 0) (omega arith))

pub coded : (k : Kind) {n x y : ℕ} {p c : Bool} → n ≡ operation_code k.operation → p ≡ k.pushes → x ≡ cond p 32 0 → c ≡ calls k.argument → y ≡ cond c 64 0
    → Coded k (n + x + y)
coded k {n} {x} {y} {p} {c} e p-is x-is c-is y-is =
    let h : n ≤ 22 = omega (arith, operation-small k.operation) in
    let r = entry-parts n h p c in
    rw (x-is, y-is) (record { code = r.0 ∙ e; pushes = r.1 ∙ p-is; calls = r.2 ∙ c-is })

-- a price, with the primitive's or without

module _ (r : Range) (p : PriceRange r) where
  pub price-natural : NaturalRange r
  price-natural = record { least = 0; greatest = p.greatest; is = p.is; small = let h = p.small in (omega arith, omega arith) }

  pub natural-small : (ws : List (List ℕ)) (i : ℕ) {n : ℕ} → n ≡ natural_at r ws i → n ≤ p.greatest
  natural-small ws i e = omega (arith, e ∙ ap (λ q. natural_at q ws i) p.is, (natural-inside 0 p.greatest (value (get_or ws i []))).below)

-- a number that is wanted
pub when_true : {b : Bool} {x n : ℕ} → b ≡ true → n ≡ x → n ≡ cond b x 0
when_true {x = x} e q = q ∙ sym (ap (λ (t : Bool). cond t x 0) e)

-- the price of a primitive that is called, at the place where it is found
pub called-price : (ns ps : List (List ℕ)) {b b' : Bool} {r r' : Range} {v v' : List ℕ} {j n : ℕ} → b ≡ b' → r ≡ r' → v ≡ v' → j ≡ cond b (find v ns) 0 → n ≡ cond b (natural_at r ps j) 0
    → n ≡ cond b' (natural_at r' ps (find v' ns)) 0
called-price ns ps {b} {b'} {r} {r'} {v} {v'} {j} s t u i e = e ∙ go b j i ∙ (λ x. cond (s x) (natural_at (t x) ps (find (u x) ns)) 0)
  where
    go : (d : Bool) (k : ℕ) → k ≡ cond d (find v ns) 0 → cond d (natural_at r ps k) 0 ≡ cond d (natural_at r ps (find v ns)) 0
    go true k q = ap (λ m. natural_at r ps m) q
    go false k q = refl

-- the operand by the argument that the kind takes
module _ (k : Kind) (ps : List (List ℕ)) (w : List ℕ) where
  pub operand-absent : k.argument ≡ Absent → k.fixed ≡ operand k (argument_value ps w k.argument)
  unfolding operand argument_value
  operand-absent e = rw e refl

  pub operand-target : k.argument ≡ Target → inside addresses (value w) ≡ operand k (argument_value ps w k.argument)
  unfolding operand argument_value
  operand-target e = rw e refl

  pub operand-primitive : k.argument ≡ Primitive → k.fixed ≡ operand k (argument_value ps w k.argument)
  unfolding operand argument_value
  operand-primitive e = rw e refl

  pub operand-within : (r : Range) → k.argument ≡ Within r → inside numbers (value w) ≡ operand k (argument_value ps w k.argument)
  unfolding operand argument_value
  operand-within r e = rw e refl

alone : (c w : ℕ) → ◌≡◌ {A = Price} (record { cycles = c + 0; words = w + 0 }) (record { cycles = c; words = w })
alone c w =
    let e : c + 0 ≡ c = omega arith in
    let f : w + 0 ≡ w = omega arith in
    λ j. record { cycles = e j; words = f j }

-- the price of a line whose kind stands at i in ks, with the primitive w
priced : (ks ps : PriceList) (a : Argument) (i : ℕ) (w : List ℕ) → ◌≡◌ {A = Price}
    (record {
      cycles = natural_at cycle_counts ks.cycles i + cond (calls a) (natural_at cycle_counts ps.cycles (find w ps.names)) 0;
      words = natural_at word_counts ks.words i + cond (calls a) (natural_at word_counts ps.words (find w ps.names)) 0;
    })
    (price_of (prices ks ps) a i (argument_value ps.names w a))
unfolding price_of argument_value
priced ks ps Absent i w = alone (natural_at cycle_counts ks.cycles i) (natural_at word_counts ks.words i)
priced ks ps Target i w = alone (natural_at cycle_counts ks.cycles i) (natural_at word_counts ks.words i)
priced ks ps Primitive i w = refl
priced ks ps (Within r) i w = alone (natural_at cycle_counts ks.cycles i) (natural_at word_counts ks.words i)

-- what the entries of a line say of its kind k
module _ (ks : PriceList) (xs : List (List ℕ)) (ps : PriceList) (text : List ℕ) (k : Kind) (b : ℕ) (i : ℤ) (c w x : ℕ) where
  pub record Read : Type 0 where
    pub coded : Coded k b
    pub operand : (ns : List (List ℕ)) → i ≡ operand k (argument_value ns (arg text) k.argument)
    pub cycles : c ≡ natural_at cycle_counts ks.cycles (find (op text) ks.names) + cond (calls k.argument) (natural_at cycle_counts ps.cycles (find (arg text) ps.names)) 0
    pub words : w ≡ natural_at word_counts ks.words (find (op text) ks.names) + cond (calls k.argument) (natural_at word_counts ps.words (find (arg text) ps.names)) 0
    pub extra : x ≡ natural_at extra_counts xs (find (op text) ks.names)

  pub entry-is : Read → k ≡ kind_at (find (op text) kind_names) → line_of (line b i c w x) ≡ instruction_of ks xs ps text
  unfolding instruction_of instruction
  entry-is r e =
      let o : operation_of (b % 32) ≡ k.operation = ap operation_of r.coded.code ∙ operation-is k.operation in
      let s : ◌≡◌ {A = Price} (record { cycles = c; words = w }) (price_of (prices ks ps) k.argument (find (op text) ks.names) (argument_value ps.names (arg text) k.argument)) =
      (λ j. record { cycles = r.cycles j; words = r.words j }) ∙ priced ks ps k.argument (find (op text) ks.names) (arg text) in
      let l : line_of (line b i c w x) ≡ instruction k (argument_value ps.names (arg text) k.argument) _ _ =
      λ j. record { pushes = r.coded.pushes j; operation = o j; operand = r.operand ps.names j; calls = r.coded.calls j; price = s j; extra = r.extra j } in
      l ∙ ap (λ (k : Kind). let v = argument_value ps.names (arg text) k.argument in instruction k v (price_of (prices ks ps) k.argument (find (op text) ks.names) v) (natural_at extra_counts xs (find (op text) ks.names))) e

  pub code-small : Read → b % 32 ≤ 22
  code-small r = let e = r.coded.code in omega (arith, operation-small k.operation)

-- ---- a program with one more line

module _ (ws : List ℕ) (k b o c w x : ℕ) where
  -- what stands before them and after them stays
  pub put-kept : (i : ℕ) → (k ≤ i → k + 5 ≤ i) → get_or (put_line ws k b o c w x) i 0 ≡ get_or ws i 0
  put-kept i h =
      get_or-set_other (set (set (set (set ws k b) (k + 1) o) (k + 2) c) (k + 3) w) (k + 4) i x 0 (λ e. apart (k + 4) e (omega arith) (omega arith))
      ∙ get_or-set_other (set (set (set ws k b) (k + 1) o) (k + 2) c) (k + 3) i w 0 (λ e. apart (k + 3) e (omega arith) (omega arith))
      ∙ get_or-set_other (set (set ws k b) (k + 1) o) (k + 2) i c 0 (λ e. apart (k + 2) e (omega arith) (omega arith))
      ∙ get_or-set_other (set ws k b) (k + 1) i o 0 (λ e. apart (k + 1) e (omega arith) (omega arith))
      ∙ get_or-set_other ws k i b 0 (λ e. apart k e (omega arith) (omega arith))
    where
      apart : (j : ℕ) → i ≡ j → k ≤ j → j < k + 5 → ⊥
      apart j e l m = let g : k + 5 ≤ i = h (omega arith) in omega arith

  -- and they are read back
  module _ (h : k + 5 ≤ length ws) where
    pub word-0 : get_or (put_line ws k b o c w x) k 0 ≡ b
    word-0 = get_or-set_other (set (set (set (set ws k b) (k + 1) o) (k + 2) c) (k + 3) w) (k + 4) k x 0 (λ e. omega arith)
        ∙ get_or-set_other (set (set (set ws k b) (k + 1) o) (k + 2) c) (k + 3) k w 0 (λ e. omega arith)
        ∙ get_or-set_other (set (set ws k b) (k + 1) o) (k + 2) k c 0 (λ e. omega arith)
        ∙ get_or-set_other (set ws k b) (k + 1) k o 0 (λ e. omega arith)
        ∙ get_or-set_same ws k b 0 (omega arith)

    pub word-1 : get_or (put_line ws k b o c w x) (k + 1) 0 ≡ o
    word-1 = get_or-set_other (set (set (set (set ws k b) (k + 1) o) (k + 2) c) (k + 3) w) (k + 4) (k + 1) x 0 (λ e. omega arith)
        ∙ get_or-set_other (set (set (set ws k b) (k + 1) o) (k + 2) c) (k + 3) (k + 1) w 0 (λ e. omega arith)
        ∙ get_or-set_other (set (set ws k b) (k + 1) o) (k + 2) (k + 1) c 0 (λ e. omega arith)
        ∙ get_or-set_same (set ws k b) (k + 1) o 0 (simp length-set (omega arith))

    pub word-2 : get_or (put_line ws k b o c w x) (k + 2) 0 ≡ c
    word-2 = get_or-set_other (set (set (set (set ws k b) (k + 1) o) (k + 2) c) (k + 3) w) (k + 4) (k + 2) x 0 (λ e. omega arith)
        ∙ get_or-set_other (set (set (set ws k b) (k + 1) o) (k + 2) c) (k + 3) (k + 2) w 0 (λ e. omega arith)
        ∙ get_or-set_same (set (set ws k b) (k + 1) o) (k + 2) c 0 (simp length-set (omega arith))

    pub word-3 : get_or (put_line ws k b o c w x) (k + 3) 0 ≡ w
    word-3 = get_or-set_other (set (set (set (set ws k b) (k + 1) o) (k + 2) c) (k + 3) w) (k + 4) (k + 3) x 0 (λ e. omega arith)
        ∙ get_or-set_same (set (set (set ws k b) (k + 1) o) (k + 2) c) (k + 3) w 0 (simp length-set (omega arith))

    pub word-4 : get_or (put_line ws k b o c w x) (k + 4) 0 ≡ x
    word-4 = get_or-set_same (set (set (set (set ws k b) (k + 1) o) (k + 2) c) (k + 3) w) (k + 4) x 0 (simp length-set (omega arith))

    pub put-line : line_at (put_line ws k b o c w x) k ≡ line b (signed 32 o) c w x
    put-line = rw (word-0, word-1, word-2, word-3, word-4) refl

-- a program whose first n lines are those of a list, with the next one
module _ (f : Line → Instruction) (ls : List Line) (ws : List ℕ) (n b o c w x : ℕ) (long : length ws ≡ 5131) (few : n < 1024) where
  pub program-more : n < length ls → line_of (line b (signed 32 o) c w x) ≡ get_or (map f ls) n (f no_line) → lines_from ws n 11 ≡ take n (map f ls)
      → lines_from (put_line ws (11 + n * 5) b o c w x) (n + 1) 11 ≡ take (n + 1) (map f ls)
  program-more k e q =
      let m : n < length (map f ls) = rw length-map k in
      subst (λ i. lines_from (put_line ws (11 + n * 5) b o c w x) i 11 ≡ take i (map f ls)) (sym (add-one n))
      (lines_snoc (put_line ws (11 + n * 5) b o c w x) n 11
      ∙ ap₂ (λ (l : List Instruction) (y : Instruction). l ++ (y ∷ []))
      (lines-agree (put_line ws (11 + n * 5) b o c w x) ws n 11 (λ i g h. put-kept ws (11 + n * 5) b o c w x i (λ j. absurd (omega arith))) ∙ q)
      (ap line_of (put-line ws (11 + n * 5) b o c w x (omega arith)) ∙ e)
      ∙ sym (take-suc (map f ls) n (f no_line) m))

  -- its first words have the codes of operations
  pub known_more : b % 32 ≤ 22 → ((j : ℕ) → j < n → get_or ws (11 + j * 5) 0 % 32 ≤ 22) → (j : ℕ) → j < n + 1 → get_or (put_line ws (11 + n * 5) b o c w x) (11 + j * 5) 0 % 32 ≤ 22
  known_more k all j h = go (ltb j n) refl
    where
      go : (t : Bool) → ltb j n ≡ t → get_or (put_line ws (11 + n * 5) b o c w x) (11 + j * 5) 0 % 32 ≤ 22
      go true e = let l = ltb-true j n e in rw (put-kept ws (11 + n * 5) b o c w x (11 + j * 5) (λ g. absurd (omega arith))) (all j l)
      go false e =
          let l = ltb-false j n e in
          let i : j ≡ n = omega arith in
          rw (i, ap (λ (y : Held). y.code) (put-line ws (11 + n * 5) b o c w x (omega arith))) k
