-- The numbers of a generated problem. Each is a draw: a word of the generator modulo the number of choices. The words
-- are used in the order in which the generator gives them: one for each column, then one for each row that has columns,
-- then nine for each scenario.
use Rattle.std.specs.Prelude.{ℕ, zero, suc, ◌+◌, ◌*◌, ◌%◌, nat_eq, nat_lt, List, length, filter, slice_index}
use Rattle.std.specs.List.{range_with_len}
use Rattle.rand_core.specs.Steps.{first_words}
use Rattle.rand_core.specs.Pcg32Seed.{pcg32_seed}
use Rattle.rand_pcg.specs.Pcg.{pcg32, pcg32_of_seed}

-- the first words that the generator gives, from `seed_from_u64` of a number on
abbrev pub words_of : ℕ → ℕ → List ℕ
words_of seed count = first_words pcg32 count (pcg32_of_seed (pcg32_seed 16 seed))

-- the words are numbered from 0
abbrev pub word : List ℕ → ℕ → ℕ
word words k = slice_index words k

-- how many of the columns stand in row i: column j stands in row `j % rows`
unfoldable pub size : ℕ → ℕ → ℕ → ℕ
size columns rows i = length (filter (λ j. nat_eq (j % rows) i) (range_with_len 0 columns))

abbrev pub cost_of : ℕ → ℕ
cost_of w = 1 + w % 100

-- the demand of a row of so many columns: for none it is 0, and no word is used
abbrev pub demand_of : ℕ → ℕ → ℕ
demand_of zero w = 0
demand_of (suc n) w = 1 + w % (9 * suc n)

abbrev pub cost : List ℕ → ℕ → ℕ
cost words j = cost_of (word words j)

-- how many of the first n rows have columns
unfoldable pub filled : ℕ → ℕ → ℕ → ℕ
filled columns rows n = length (filter (λ i. nat_lt 0 (size columns rows i)) (range_with_len 0 n))

-- the demands follow the costs, a word for each row that has columns
abbrev pub demand : List ℕ → ℕ → ℕ → ℕ → ℕ
demand words columns rows i = demand_of (size columns rows i) (word words (columns + filled columns rows i))

-- the scenarios follow the demands, nine words each: this is the first word of scenario k
abbrev pub first_word : ℕ → ℕ → ℕ → ℕ
first_word columns rows k = columns + filled columns rows rows + 9 * k

-- how many kinds of change there are: without rows there is none of a right-hand side
abbrev pub kinds : ℕ → ℕ
kinds zero = 2
kinds (suc rows) = 3
