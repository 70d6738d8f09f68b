-- Worked model texts, by computing.
use Rattle.std.specs.Prelude.{◌≡◌, ℕ, pos, negsuc, List, [], ◌∷◌, ◌++◌, Ok, Err, None, Some, refl, codes, flat_map, slice_set, drop, take}
use Rattle.mps_reader.specs.MpsModels.{model_of}
use Rattle.int_model.specs.Models.{IntegerModel}
use Rattle.int_model.specs.declared.model.RowSense.TheVariants.{L, G, E}
use Rattle.int_model.specs.declared.model.Direction.TheVariants.{Min, Max}
use Rattle.mps_reader.specs.declared.MpsKind.TheVariants.{Section, NoEnd, Fields, UnknownRow, UnknownColumn, Duplicate, Continuous, Number, Fraction, Magnitude, SecondSet, Unbounded, NegativeUpper}

-- the text of lines
abbrev pub text_of : List (List ℕ) → List ℕ
text_of ls = flat_map (λ l. l ++ 10 ∷ []) ls

abbrev pub m1_lines : List (List ℕ)
m1_lines =
    codes "NAME m1" ∷ codes "ROWS" ∷ codes " N cost" ∷ codes " L cap" ∷ codes "COLUMNS" ∷ codes " M 'MARKER' 'INTORG'"
    ∷ codes " x cost -3 cap 2" ∷ codes " y cost -2 cap 1" ∷ codes " M 'MARKER' 'INTEND'" ∷ codes "RHS" ∷ codes " rhs cap 4" ∷ codes "BOUNDS"
    ∷ codes " UP b x 3" ∷ codes " UP b y 3" ∷ codes "ENDATA" ∷ []

abbrev pub m1_model : IntegerModel
m1_model = record {
  columns = record { name = codes "x"; cost = negsuc 2; low = pos 0; high = pos 3 } ∷ record { name = codes "y"; cost = negsuc 1; low = pos 0; high = pos 3 } ∷ [];
  rows = record { name = codes "cap"; sense = L; rhs = pos 4; range = None; terms = (0, pos 2) ∷ (1, pos 1) ∷ [] } ∷ [];
  constant = pos 0;
  direction = Min;
  implied = 0;
}

m1-model : model_of (text_of m1_lines) ≡ Ok m1_model
m1-model = refl

fields : model_of (text_of (slice_set m1_lines 3 (codes " Q cap"))) ≡ Err (4, Fields)
fields = refl

unknown_row : model_of (text_of (slice_set m1_lines 6 (codes " x cost -3 top 2"))) ≡ Err (7, UnknownRow)
unknown_row = refl

duplicate : model_of (text_of (slice_set m1_lines 7 (codes " x cost -2 cap 1"))) ≡ Err (8, Duplicate)
duplicate = refl

number : model_of (text_of (slice_set m1_lines 7 (codes " y cost -2 cap one"))) ≡ Err (8, Number)
number = refl

extra : model_of (text_of (slice_set m1_lines 10 (codes " rhs cap 4 extra"))) ≡ Err (11, UnknownRow)
extra = refl

second_set : model_of (text_of (take 11 m1_lines ++ codes " other cap 5" ∷ drop 11 m1_lines)) ≡ Err (12, SecondSet)
second_set = refl

unknown_column : model_of (text_of (slice_set m1_lines 12 (codes " UP b w 3"))) ≡ Err (13, UnknownColumn)
unknown_column = refl

negative_upper : model_of (text_of (slice_set m1_lines 12 (codes " UP b x -1"))) ≡ Err (15, NegativeUpper)
negative_upper = refl

unbounded : model_of (text_of (slice_set m1_lines 12 (codes " LO b x 1"))) ≡ Err (15, Unbounded)
unbounded = refl

continuous : model_of (text_of (take 5 m1_lines ++ (take 2 (drop 6 m1_lines) ++ drop 9 m1_lines))) ≡ Err (13, Continuous)
continuous = refl

section : model_of (text_of (slice_set m1_lines 9 (codes "SETS"))) ≡ Err (10, Section)
section = refl

no_end : model_of (text_of (take 14 m1_lines)) ≡ Err (15, NoEnd)
no_end = refl

no_text : model_of (text_of ([])) ≡ Err (1, NoEnd)
no_text = refl

fraction : model_of (text_of (slice_set m1_lines 6 (codes " x cost -3 cap 0.5"))) ≡ Err (7, Fraction)
fraction = refl

abbrev pub row7_lines : List (List ℕ)
row7_lines = codes "NAME none" ∷ codes "ROWS" ∷ codes " N obj" ∷ codes " G r" ∷ codes "COLUMNS" ∷ codes "RHS" ∷ codes " rhs r 0" ∷ codes "ENDATA" ∷ []

row7-model : model_of (text_of row7_lines) ≡ Ok (record {
  columns = [];
  rows = record { name = codes "r"; sense = G; rhs = pos 0; range = None; terms = [] } ∷ [];
  constant = pos 0;
  direction = Min;
  implied = 0;
})
row7-model = refl

abbrev pub row9_lines : List (List ℕ)
row9_lines = codes "ROWS" ∷ codes " N obj" ∷ codes " E r" ∷ codes "COLUMNS" ∷ codes " M 'MARKER' 'INTORG'" ∷ codes " x r 2" ∷ codes " y r 2" ∷ codes " z r 2" ∷ codes " M 'MARKER' 'INTEND'" ∷ codes "RHS" ∷ codes " rhs r 3" ∷ codes "ENDATA" ∷ []

row9-model : model_of (text_of row9_lines) ≡ Ok (record {
  columns = record { name = codes "x"; cost = pos 0; low = pos 0; high = pos 1 } ∷ record { name = codes "y"; cost = pos 0; low = pos 0; high = pos 1 } ∷ record { name = codes "z"; cost = pos 0; low = pos 0; high = pos 1 } ∷ [];
  rows = record { name = codes "r"; sense = E; rhs = pos 3; range = None; terms = (0, pos 2) ∷ (1, pos 2) ∷ (2, pos 2) ∷ [] } ∷ [];
  constant = pos 0;
  direction = Min;
  implied = 3;
})
row9-model = refl

abbrev pub row11_lines : List (List ℕ)
row11_lines = codes "ROWS" ∷ codes " N obj" ∷ codes " E r" ∷ codes "COLUMNS" ∷ codes " M 'MARKER' 'INTORG'" ∷ codes " x obj 1 r 1" ∷ codes " M 'MARKER' 'INTEND'" ∷ codes "RHS" ∷ codes " rhs r 5" ∷ codes "RANGES" ∷ codes " rng r -2" ∷ codes "BOUNDS" ∷ codes " UP b x 9" ∷ codes "ENDATA" ∷ []

row11-model : model_of (text_of row11_lines) ≡ Ok (record {
  columns = record { name = codes "x"; cost = pos 1; low = pos 0; high = pos 9 } ∷ [];
  rows = record { name = codes "r"; sense = E; rhs = pos 5; range = Some (negsuc 1); terms = (0, pos 1) ∷ [] } ∷ [];
  constant = pos 0;
  direction = Min;
  implied = 0;
})
row11-model = refl

abbrev pub row12_lines : List (List ℕ)
row12_lines = codes "ROWS" ∷ codes " N obj" ∷ codes "COLUMNS" ∷ codes " x obj 1000000000" ∷ codes "BOUNDS" ∷ codes " LI b x -1000000" ∷ codes " UI b x 1000000" ∷ codes "ENDATA" ∷ []

row12-model : model_of (text_of row12_lines) ≡ Ok (record {
  columns = record { name = codes "x"; cost = pos 1000000000; low = negsuc 999999; high = pos 1000000 } ∷ [];
  rows = [];
  constant = pos 0;
  direction = Min;
  implied = 0;
})
row12-model = refl

abbrev pub prod_lines : List (List ℕ)
prod_lines = codes "* written by a usual producer" ∷ codes "NAME          prod" ∷ codes "ROWS" ∷ codes " N  OBJ" ∷ codes " L  c1" ∷ codes "COLUMNS" ∷ codes "    MARKER                 'MARKER'                 'INTORG'" ∷ codes "    x         OBJ       3.0000000000e+00   c1        1.0000000000e+00" ∷ codes "    y         OBJ       -2.0000000000e+00   c1        1.0000000000e+00" ∷ codes "    MARKER                 'MARKER'                 'INTEND'" ∷ codes "RHS" ∷ codes "    RHS1      OBJ       5.0000000000e+00   c1        4.0000000000e+00" ∷ codes "BOUNDS" ∷ codes " UP BND1      x         4.0000000000e+00" ∷ codes "ENDATA" ∷ []

prod-model : model_of (text_of prod_lines) ≡ Ok (record {
  columns = record { name = codes "x"; cost = pos 3; low = pos 0; high = pos 4 } ∷ record { name = codes "y"; cost = negsuc 1; low = pos 0; high = pos 1 } ∷ [];
  rows = record { name = codes "c1"; sense = L; rhs = pos 4; range = None; terms = (0, pos 1) ∷ (1, pos 1) ∷ [] } ∷ [];
  constant = negsuc 4;
  direction = Min;
  implied = 1;
})
prod-model = refl

row12_wide : model_of (text_of (slice_set row12_lines 3 (codes " x obj 1000000001"))) ≡ Err (4, Magnitude)
row12_wide = refl

abbrev pub maximum_lines : List (List ℕ)
maximum_lines = codes "OBJSENSE" ∷ codes "    MAX" ∷ codes "ROWS" ∷ codes " N cost" ∷ codes " L cap" ∷ codes "COLUMNS" ∷ codes " M 'MARKER' 'INTORG'" ∷ codes " x cost 3 cap 2" ∷ codes " y cost 2 cap 1" ∷ codes " M 'MARKER' 'INTEND'" ∷ codes "RHS" ∷ codes " rhs cap 4" ∷ codes "BOUNDS" ∷ codes " UP b x 3" ∷ codes " UP b y 3" ∷ codes "ENDATA" ∷ []

maximum-model : model_of (text_of maximum_lines) ≡ Ok (record {
  columns = record { name = codes "x"; cost = pos 3; low = pos 0; high = pos 3 } ∷ record { name = codes "y"; cost = pos 2; low = pos 0; high = pos 3 } ∷ [];
  rows = record { name = codes "cap"; sense = L; rhs = pos 4; range = None; terms = (0, pos 2) ∷ (1, pos 1) ∷ [] } ∷ [];
  constant = pos 0;
  direction = Max;
  implied = 0;
})
maximum-model = refl

-- the last setting of a side counts
narrower : model_of (text_of (take 13 m1_lines ++ codes " UP b x 2" ∷ drop 13 m1_lines)) ≡ Ok (record m1_model { columns = record { name = codes "x"; cost = negsuc 2; low = pos 0; high = pos 2 } ∷ record { name = codes "y"; cost = negsuc 1; low = pos 0; high = pos 3 } ∷ [] })
narrower = refl
