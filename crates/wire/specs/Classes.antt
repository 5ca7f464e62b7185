-- The class of a mode and a submode.
use Rattle.std.specs.Prelude.{ℕ, Bool, false, cond, ◌&&◌, ◌||◌, List, [], ◌∷◌, codes, ◌==◌}
use Rattle.wire.specs.declared.classes.Class.{Class}
use Rattle.wire.specs.declared.classes.Class.TheVariants.{Control, Definition, Description, Data, Unknown}

-- a mode and a submode, written in octal
abbrev pub Kind : Type 0
Kind = ℕ × ℕ

abbrev pub definitions : List Kind
definitions = (3, 0o20) ∷ (3, 0o30) ∷ (4, 0o20) ∷ (4, 0o30) ∷ (5, 0o20) ∷ (6, 0o20) ∷ (6, 0o30) ∷ (6, 0o40) ∷ (7, 0o20) ∷ []

abbrev pub descriptions : List Kind
descriptions = (3, 0o21) ∷ (3, 0o22) ∷ (3, 0o23) ∷ (6, 0o41) ∷ (6, 0o42) ∷ []

abbrev pub data_kinds : List Kind
data_kinds =
    (3, 0o1) ∷ (4, 0o1) ∷ (4, 0o2) ∷ (4, 0o3) ∷ (4, 0o4) ∷ (4, 0o5) ∷ (4, 0o6) ∷ (4, 0o7) ∷ (4, 0o10) ∷ (4, 0o11) ∷ (4, 0o12)
    ∷ (5, 0o1) ∷ (5, 0o2) ∷ (5, 0o3) ∷ (5, 0o4) ∷ (6, 0o1) ∷ (7, 0o1) ∷ []

abbrev pub among : ℕ → ℕ → List Kind → Bool
among m s [] = false
among m s (k ∷ ks) = (k.0 == m && k.1 == s) || among m s ks

-- what the table says
unfoldable pub tabled : ℕ → ℕ → Class
tabled m s =
    cond (among m s definitions) Definition
    (cond (among m s descriptions) Description
    (cond (among m s data_kinds) Data
    Unknown))

-- all of mode 1 is control, all of mode 2 data
abbrev pub class_of : ℕ → ℕ → Class
class_of m s = cond (m == 1) Control (cond (m == 2) Data (tabled m s))

abbrev pub class_name : Class → List ℕ
class_name Control = codes "control"
class_name Definition = codes "definition"
class_name Description = codes "description"
class_name Data = codes "data"
class_name Unknown = codes "unknown"
