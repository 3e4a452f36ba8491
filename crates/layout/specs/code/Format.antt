-- What a function of Format promises: the geometry that its numbers give a table.
use Rattle.std.specs.Prelude.{ℕ, cond, List, leb, length, Option, Some, None, Result, Ok, Err}
use Rattle.table.specs.declared.geometry.Geometry.{Geometry}
use Rattle.table.specs.declared.answers.Refusal.{Refusal}
use Rattle.table.specs.declared.answers.Refusal.TheVariants.{EmptyOrShort, NoGeometry, TooManyFrames}
use Rattle.table.specs.Geometry.{geometry_of, words_of}
use Rattle.layout.specs.Format.{unusable_frames}

-- 3 none that is allowed; 20 more frames than places; 1 too short
abbrev pub fitting : List ℕ → Option Geometry → Result Geometry Refusal
fitting t None = Err NoGeometry
fitting t (Some g) = cond (unusable_frames g) (Err TooManyFrames) (cond (leb (words_of g) (length t)) (Ok g) (Err EmptyOrShort))

unfoldable pub geometry_for : List ℕ → ℕ → ℕ → ℕ → Result Geometry Refusal
geometry_for t nodes items frames = fitting t (geometry_of nodes items frames)
