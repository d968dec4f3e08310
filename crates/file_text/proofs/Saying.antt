-- How the answer of `fields_of` reads: each case (`fields_say_lem`), a line of each kind (`fields_said`), and that no two answers read alike
-- (`fields_say_injective`), so that the reading determines the answer (`fields_are`).
--
-- Pins, which nothing else cites: `fields_are`.
use Prim.Native.Nat.{ℕ}
use mathlib.Core.Path.{◌≡◌, refl}
use mathlib.Core.List.{List, [], ◌∷◌}
use mathlib.Core.Option.{some, none}
use Rattle.basics.proofs.Clash.{clash}
use Rattle.file_text.specs.Fields.{scan, fields, fields_say}
use Rattle.file_text.specs.declared.Fields.{Fields}
use Rattle.file_text.specs.declared.Fields.TheVariants.{Blank, Two, Three, Other}

-- the values of each case
pub fields_say_lem : (a b c : ℕ)
    → (fields_say Blank ≡ some []) × (fields_say (Two a b) ≡ some (a ∷ b ∷ [])) × (fields_say (Three a b c) ≡ some (a ∷ b ∷ c ∷ [])) × (fields_say Other ≡ none)
fields_say_lem a b c = (refl, refl, refl, refl)

-- a space and a tab; `7 012`; `2 3 6`; `1`; `1 2 3 4`; `1 x`
pub fields_said : (fields_say (fields (32 ∷ 9 ∷ [])) ≡ some [])
    × (fields_say (fields (55 ∷ 32 ∷ 48 ∷ 49 ∷ 50 ∷ [])) ≡ some (7 ∷ 12 ∷ []))
    × (fields_say (fields (50 ∷ 32 ∷ 51 ∷ 32 ∷ 54 ∷ [])) ≡ some (2 ∷ 3 ∷ 6 ∷ []))
    × (fields_say (fields (49 ∷ [])) ≡ none)
    × (fields_say (fields (49 ∷ 32 ∷ 50 ∷ 32 ∷ 51 ∷ 32 ∷ 52 ∷ [])) ≡ none)
    × (fields_say (fields (49 ∷ 32 ∷ 120 ∷ [])) ≡ none)
unfolding scan
fields_said = (refl, refl, refl, refl, refl, refl)

-- ---- no two answers read alike
fields_say_injective : (x y : Fields) → fields_say x ≡ fields_say y → x ≡ y
fields_say_injective Blank Blank e = refl
fields_say_injective Blank (Two a b) e = clash (cc)
fields_say_injective Blank (Three a b c) e = clash (cc)
fields_say_injective Blank Other e = clash (cc)
fields_say_injective (Two a b) Blank e = clash (cc)
fields_say_injective (Two a b) (Two d f) e = cc
fields_say_injective (Two a b) (Three d f g) e = clash (cc)
fields_say_injective (Two a b) Other e = clash (cc)
fields_say_injective (Three a b c) Blank e = clash (cc)
fields_say_injective (Three a b c) (Two d f) e = clash (cc)
fields_say_injective (Three a b c) (Three d f g) e = cc
fields_say_injective (Three a b c) Other e = clash (cc)
fields_say_injective Other Blank e = clash (cc)
fields_say_injective Other (Two d f) e = clash (cc)
fields_say_injective Other (Three d f g) e = clash (cc)
fields_say_injective Other Other e = refl

-- an answer that reads as the line's fields is their case
pub fields_are : (l : List ℕ) (x : Fields) → fields_say x ≡ fields_say (fields l) → x ≡ fields l
fields_are l x e = fields_say_injective x (fields l) e
