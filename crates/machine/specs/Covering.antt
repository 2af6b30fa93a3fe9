-- What a step leads to, related: where a step opens two ways, one that knows more may open them too or go one of them.
use Rattle.machine.specs.Machine.{State, Price, Next, stops, goes, opens}

-- `two` is what must hold for the first side to open two ways: Unit in the bound, ⊥ in the run
pub data NextCovered (R : State → State → Type 0) (two : Type 0) : Next → Next → Type 0 where
  stops_too : {p : Price} → NextCovered R two (stops p) (stops p)
  goes_too : {p : Price} {s t : State} → R s t → NextCovered R two (goes p s) (goes p t)
  opens_too : {p q : Price} {s t s' t' : State} → two → R s s' → R t t' → NextCovered R two (opens p s q t) (opens p s' q t')
  goes_not_taken : {p q : Price} {s s' t' : State} → R s s' → NextCovered R two (goes p s) (opens p s' q t')
  goes_taken : {p q : Price} {t s' t' : State} → R t t' → NextCovered R two (goes q t) (opens p s' q t')
