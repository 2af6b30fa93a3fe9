-- What a function that is passed in answers for a text: how many bytes are to be printed, which it puts at the start of memory that it is lent.
use Rattle.std.specs.Prelude.{◌≡◌, ◌⊎◌, ℕ, List, Option, length}
use Rattle.std.specs.Io.KnownBytes.{Consumes, IsAtEnd}
use Rattle.io.specs.Counts.{IsPrefixLen}
use denote.Ref.{Bor, MutBor}
use denote.Param.Members.{Once}

module _ {F : Type 0} (g : Once F (Bor (List ℕ) × (MutBor (List ℕ) × Unit {0})) (ℕ × (MutBor (List ℕ) × Unit {0}))) (f : F) where
  -- f may be asked for any text, with memory of that length
  abbrev pub AcceptsText : ℕ → Type 0
  AcceptsText room = (text : Bor (List ℕ)) (out : MutBor (List ℕ)) → length out.now ≡ room → g.pre f (text, (out, tt))

  -- and the bytes that it then answers are within that memory
  abbrev pub AnswersPrefix : ℕ → Type 0
  AnswersPrefix room = (text : Bor (List ℕ)) (out : MutBor (List ℕ)) (n : ℕ) (left : MutBor (List ℕ)) → length out.now ≡ room
      → g.post f (text, (out, tt)) (n, (left, tt)) → IsPrefixLen n left.now

  -- asked for a text, with memory that holds old, f may answer n and leave new there
  pub record Answered (text old : List ℕ) (n : ℕ) (new : List ℕ) : Type 0 where
    pub shown : Bor (List ℕ)
    pub shows : shown.now ≡ text
    pub lent : MutBor (List ℕ)
    pub lends : lent.now ≡ old
    pub left : MutBor (List ℕ)
    pub leaves : left.now ≡ new
    pub met : g.post f (shown, (lent, tt)) (n, (left, tt))

  -- and so for the bytes that a reader gave: all that it had left, or 32,769
  pub record AnsweredRead (before after : Option (List ℕ)) (old : List ℕ) (n : ℕ) (new : List ℕ) : Type 0 where
    pub text : List ℕ
    pub read : Consumes before after text
    pub whole : (length text ≡ 32769) ⊎ IsAtEnd after
    pub answered : Answered text old n new

  -- the memory is as it was, or as f may leave it for some text
  abbrev pub MayAnswer : List ℕ → List ℕ → Type 0
  MayAnswer old new = (new ≡ old) ⊎ ((text : List ℕ) × (n : ℕ) × Answered text old n new)
