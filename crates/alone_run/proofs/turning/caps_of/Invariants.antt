use Rattle.std.proofs.Common.{◌≡◌, ◌<◌, ℕ, IfSome, None, length}
use Rattle.std.specs.Prelude.{slice_index_or}
use Rattle.incumbent_words.specs.Codes.{code_of, IsValue}
use Rattle.incumbent_words.specs.Rule.{code_at}
use Rattle.alone_run.proofs.turning.caps_of.Given as goal

abbrev pub invariant-loop-s : goal.invariant-loop-s
invariant-loop-s l = record {
  count : length l.cuts.items ≡ l.s;
  codes : (k : ℕ) → k < l.s → code_of (slice_index_or l.cuts.items k None) ≡ code_at l.note.view.caps k;
  limits : (k : ℕ) → k < l.s → IfSome (slice_index_or l.cuts.items k None) IsValue;
}
