-- What a function that is passed in answers for two texts, as `Asked` says it for one.
use Rattle.std.specs.Prelude.{◌≡◌, ◌⊎◌, ℕ, List, Option, length}
use Rattle.std.specs.Io.KnownBytes.{Consumes, IsAtEnd}
use Rattle.io.specs.Counts.{IsPrefixLen}
use denote.Ref.{Bor, MutBor}
use denote.Param.Members.{Once}

module _ {F : Type 0} (g : Once F (Bor (List ℕ) × (Bor (List ℕ) × (MutBor (List ℕ) × Unit {0}))) (ℕ × (MutBor (List ℕ) × Unit {0}))) (f : F) where
  -- f may be asked for any two texts, with memory of that length
  abbrev pub AcceptsTexts : ℕ → Type 0
  AcceptsTexts room = (text other : Bor (List ℕ)) (out : MutBor (List ℕ)) → length out.now ≡ room → g.pre f (text, (other, (out, tt)))

  -- and the bytes that it then answers are within that memory
  abbrev pub AnswersPrefixOfTwo : ℕ → Type 0
  AnswersPrefixOfTwo room = (text other : Bor (List ℕ)) (out : MutBor (List ℕ)) (n : ℕ) (left : MutBor (List ℕ)) → length out.now ≡ room
      → g.post f (text, (other, (out, tt))) (n, (left, tt)) → IsPrefixLen n left.now

  -- asked for two texts, with memory that holds old, f may answer n and leave new there
  pub record AnsweredTwo (text other old : List ℕ) (n : ℕ) (new : List ℕ) : Type 0 where
    pub shown : Bor (List ℕ)
    pub shows : shown.now ≡ text
    pub second : Bor (List ℕ)
    pub shows_other : second.now ≡ other
    pub lent : MutBor (List ℕ)
    pub lends : lent.now ≡ old
    pub left : MutBor (List ℕ)
    pub leaves : left.now ≡ new
    pub met : g.post f (shown, (second, (lent, tt))) (n, (left, tt))

  -- and so for the bytes that two readers gave: all that the first had left, or 32,769, and all that the other had left, or as many as room
  pub record AnsweredReads (before after before_other after_other : Option (List ℕ)) (room : ℕ) (old : List ℕ) (n : ℕ) (new : List ℕ) : Type 0 where
    pub text : List ℕ
    pub read : Consumes before after text
    pub whole : (length text ≡ 32769) ⊎ IsAtEnd after
    pub other : List ℕ
    pub read_other : Consumes before_other after_other other
    pub whole_other : (length other ≡ room) ⊎ IsAtEnd after_other
    pub answered : AnsweredTwo text other old n new

  -- the memory is as it was, or as f may leave it for some two texts
  abbrev pub MayAnswerTwo : List ℕ → List ℕ → Type 0
  MayAnswerTwo old new = (new ≡ old) ⊎ ((text other : List ℕ) × (n : ℕ) × AnsweredTwo text other old n new)
