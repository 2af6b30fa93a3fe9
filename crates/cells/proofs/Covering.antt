-- Laws of actions that others cover. Assumes nothing.
use mathlib.Core.Path.{◌≡◌, refl}
use Rattle.cells.specs.Try.{Try, stuck, done, ◌>>=◌}
use Rattle.cells.specs.Covering.{Covered, by_stuck, both}

pub bind : {A B : Type 0} {R : A → A → Type 0} {Q : B → B → Type 0} {m n : Try A} {f g : A → Try B} →
    Covered R m n → ((a b : A) → R a b → Covered Q (f a) (g b)) → Covered Q (m >>= f) (n >>= g)
unfolding ◌>>=◌
bind by_stuck k = by_stuck
bind (both {a} {b} r) k = k a b r

pub covered-self : {A : Type 0} {R : A → A → Type 0} → ((a : A) → R a a) → (m : Try A) → Covered R m m
covered-self r stuck = by_stuck
covered-self r (done a) = both (r a)

pub covered-equal : {A : Type 0} {m n : Try A} → m ≡ n → Covered ◌≡◌ m n
covered-equal {m} {n} e = rw e (covered-self (λ a. refl) n)
