-- What a caller of `way_back` and `put_way` goes by: what is kept by the definition can be followed, the goals of a way can be used, and the
-- lines that are written for them are those of its moves. Assumes nothing.
use Prim.Native.Nat.{ℕ, zero, suc}
use mathlib.Core.Path.{◌≡◌}
use mathlib.Core.List.{List}
use native.Mathlib.Omega.{arith}
use Rattle.text.specs.Text.{Line}
use Rattle.bound_theory.specs.Traces.{Move}
use Rattle.explain_lines.specs.Listing.{shown_lines, listing}
use Rattle.merge_way.specs.Way.{Origins}
use Rattle.merge_origins.specs.HeldOrigins.{Keeps}
use Rattle.explain_merge_walk.specs.HeldLasts.{Traced, Lists, none, more, Usable, way_text}
use Rattle.explain_merge_walk.proofs.BackLaws.{moving}
use Rattle.explain_merge_walk.proofs.LineLaws.{text-from}

pub keeps-traced : (first : ℕ) (ks : List ℕ) (o : Origins) → Keeps first ks o → Traced ks
keeps-traced first ks o k g h n = (moving first ks o k g h n).is.inside

pub lists-usable : {first : ℕ} {ks gs : List ℕ} {ms : List Move} → Lists first ks gs ms → Usable ks gs
lists-usable none i h = absurd (omega arith)
lists-usable (more h i l) zero k = record { few = h; cycles = i.small.0; words = i.small.1 }
lists-usable (more h i l) (suc j) k = lists-usable l j (omega arith)

pub way-text : (ls : List Line) (first : ℕ) (ks gs : List ℕ) (ms : List Move) → Lists first ks gs ms → way_text ls 0 0 ks gs ≡ listing ls first (shown_lines ms)
unfolding shown_lines
way-text ls first ks gs ms l = text-from ls first ks 0 0 l
