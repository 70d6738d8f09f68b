-- The best values of a finder, as codes and as levels.
use Rattle.std.specs.Prelude.{◌≡◌, ◌<◌, ◌≤◌, ℕ, ℤ, List, length, slice_index_or, Option, Some, None, IfSome, IsTrue, refl}
use Rattle.std.proofs.Common.{arith, ap, sym, ◌∙◌, subst}
use Rattle.int_model.specs.Programs.{Program, Feasible, value}
use Rattle.int_model.proofs.LimitLaws.{limits-fit}
use Rattle.scenario_changes.specs.Problems.{Scenarios}
use Rattle.scenario_changes.specs.Answers.{HasValue}
use Rattle.certs.specs.Levels.{level_le, cap_level}
use Rattle.certs.specs.declared.level.Level.{Level}
use Rattle.certs.specs.declared.level.Level.TheVariants.{Inf}
use Rattle.incumbent_words.specs.Codes.{code_of, IsValue}
use Rattle.incumbent_words.specs.Rule.{code_at, times, HasAll}
use Rattle.finder.specs.Kept.{Kept, place_at}
use Rattle.finder.specs.Found.{Found, IsOwn, IsSound, IsSameHolder, scenario_count, program_of}
use Rattle.alone_run.specs.Turns.{IsNoWorse}
use Rattle.alone_run.specs.Runs.{with_value, best_of, best_level, AreAbove}
use Rattle.alone_run.specs.Steps.{AreLowered}
use Rattle.alone_run.proofs.CodeOrder.{code_level, le_trans, below_both}

value_of : Option (List ℤ × ℤ) → Option ℤ
value_of None = None
value_of (Some (x, v)) = Some v

level_is : (b : Option (List ℤ × ℤ)) → best_level b ≡ cap_level (value_of b)
unfolding value_of
level_is None = refl
level_is (Some (x, v)) = refl

own_code : (s : Program) (c : ℕ) (o : Option (List ℤ)) → IsOwn s c o → code_of (value_of (with_value s o)) ≡ c
unfolding value_of
own_code s c None h = sym h
own_code s c (Some x) h = sym h.1

own_limit : (s : Program) (c : ℕ) (o : Option (List ℤ)) → ((x : List ℤ) → Feasible s x → IsValue (value s x)) → IsOwn s c o → IfSome (value_of (with_value s o)) IsValue
unfolding value_of
own_limit s c None fits h = tt
own_limit s c (Some x) fits h = fits x h.0

own_value : (s : Program) (c : ℕ) (o : Option (List ℤ)) → IsOwn s c o → IfSome (with_value s o) (λ (b : List ℤ × ℤ). HasValue s b.0 b.1)
own_value s c None h = tt
own_value s c (Some x) h = (h.0, refl)

module _ (f : Found) (sound : IsSound f) (k : ℕ) (lt : k < scenario_count f.problem) where
  best_code : code_of (value_of (best_of f k)) ≡ code_at f.seat.view.offers k
  best_code = own_code (program_of f.problem k) (code_at f.seat.view.offers k) (place_at f.points k).point (sound.own k lt)

  best_limit : IfSome (value_of (best_of f k)) IsValue
  best_limit = own_limit (program_of f.problem k) (code_at f.seat.view.offers k) (place_at f.points k).point (λ x h. (limits-fit (program_of f.problem k) (sound.limits.programs k _ lt).limits x h.within).value) (sound.own k lt)

  -- the best point is feasible
  pub best_value : IfSome (best_of f k) (λ (b : List ℤ × ℤ). HasValue (program_of f.problem k) b.0 b.1)
  best_value = own_value (program_of f.problem k) (code_at f.seat.view.offers k) (place_at f.points k).point (sound.own k lt)

  -- a value whose code is at least the own least offer is at least the best one
  pub best_below : (cap : Option ℤ) → IfSome cap IsValue → code_at f.seat.view.offers k ≤ code_of cap → IsTrue (level_le (best_level (best_of f k)) (cap_level cap))
  best_below cap limit h =
      subst (λ (l : Level). IsTrue (level_le l (cap_level cap))) (sym (level_is (best_of f k)))
      (code_level (value_of (best_of f k)) cap best_limit limit (omega (arith, best_code, h)))

  -- a level of at least each value whose code is at most a code c is at least the best one, where that is at most c
  pub best_within : (cap : Level) (c : ℕ) → ((v : Option ℤ) → IfSome v IsValue → code_of v ≤ c → IsTrue (level_le (cap_level v) cap)) → code_at f.seat.view.offers k ≤ c → IsTrue (level_le (best_level (best_of f k)) cap)
  best_within cap c above h = subst (λ (l : Level). IsTrue (level_le l cap)) (sym (level_is (best_of f k))) (above (value_of (best_of f k)) best_limit (omega (arith, best_code, h)))

-- own least offers for one problem that are no greater are best values that are no greater
pub best_least : (f g : Found) → IsSound f → IsSound g → g.problem ≡ f.problem → (k : ℕ) → k < scenario_count f.problem → code_at g.seat.view.offers k ≤ code_at f.seat.view.offers k → IsTrue (level_le (best_level (best_of g k)) (best_level (best_of f k)))
best_least f g sf sg same k lt h =
    let lt' : k < scenario_count g.problem = subst (λ (p : Scenarios). k < scenario_count p) (sym same) lt in
    subst (λ (l : Level). IsTrue (level_le (best_level (best_of g k)) l)) (sym (level_is (best_of f k)))
    (best_below g sg k lt' (value_of (best_of f k)) (best_limit f sf k lt) (omega (arith, best_code f sf k lt, h)))

pub best_falls : (f g : Found) → IsSound f → IsSound g → IsNoWorse f g → (k : ℕ) → k < scenario_count f.problem → IsTrue (level_le (best_level (best_of g k)) (best_level (best_of f k)))
best_falls f g sf sg h k lt = best_least f g sf sg h.same.problem k lt (h.best k)

-- ---- caps

pub above_falls : (f g : Found) (caps : List Level) → IsSound f → IsSound g → IsNoWorse f g → length caps ≡ scenario_count f.problem → AreAbove f caps → AreAbove g caps
above_falls f g caps sf sg h count a k lt =
    le_trans (best_level (best_of g k)) (best_level (best_of f k)) (slice_index_or caps k Inf) (best_falls f g sf sg h k (omega (arith, count, lt))) (a k lt)

-- caps that were lowered by codes of at least the best values
pub above_lowered : (f : Found) (caps lowered : List Level) (codes : List ℕ) → IsSound f → length caps ≡ scenario_count f.problem → ((k : ℕ) → k < scenario_count f.problem → code_at f.seat.view.offers k ≤ code_at codes k) → AreLowered caps lowered codes → AreAbove f caps → AreAbove f lowered
above_lowered f caps lowered codes sound count low h a k lt =
    let l : k < length caps = omega (arith, h.count, lt) in
    let l' : k < scenario_count f.problem = omega (arith, count, l) in
    let e = h.each k l in
    let code : code_at f.seat.view.offers k ≤ code_of e.value = omega (arith, low k l', e.value_is) in
    subst (λ (c : Level). IsTrue (level_le (best_level (best_of f k)) c)) (sym e.lesser)
    (below_both (best_level (best_of f k)) (slice_index_or caps k Inf) (cap_level e.value) (a k l) (best_below f sound k l' e.value e.limit code))

-- the same points for the same problem
pub same_best : (f g : Found) → g.problem ≡ f.problem → g.points ≡ f.points → (k : ℕ) → best_of g k ≡ best_of f k
same_best f g p q k =
    ap (λ (s : Scenarios). with_value (program_of s k) (place_at g.points k).point) p
    ∙ ap (λ (ps : List Kept). with_value (program_of f.problem k) (place_at ps k).point) q

pub above_same : (f g : Found) (caps : List Level) → g.problem ≡ f.problem → g.points ≡ f.points → AreAbove f caps → AreAbove g caps
above_same f g caps p q a k lt = subst (λ (b : Option (List ℤ × ℤ)). IsTrue (level_le (best_level b) (slice_index_or caps k Inf))) (sym (same_best f g p q k)) (a k lt)

-- ---- numbers

pub all_held : (f g : Found) → IsSameHolder f g → HasAll f.seat.view → HasAll g.seat.view
all_held f g h all =
    (h.leads ∙ all.0, λ x lt. subst (λ (ns : List ℕ). 0 < times x ns) (sym h.numbers) (all.1 x (omega (arith, h.count, lt))))

-- ---- finders that are no worse

pub holder_self : (f : Found) → IsSameHolder f f
holder_self f = record { problem = refl; table = refl; numbers = refl; leads = refl; count = refl }

pub holder_then : (f g h : Found) → IsSameHolder f g → IsSameHolder g h → IsSameHolder f h
holder_then f g h a b = record { problem = b.problem ∙ a.problem; table = b.table ∙ a.table; numbers = b.numbers ∙ a.numbers; leads = b.leads ∙ a.leads; count = b.count ∙ a.count }

pub holder_back : (f g : Found) → IsSameHolder f g → IsSameHolder g f
holder_back f g a = record { problem = sym a.problem; table = sym a.table; numbers = sym a.numbers; leads = sym a.leads; count = sym a.count }

pub worse_self : (f : Found) → IsNoWorse f f
worse_self f = record { same = holder_self f; best = λ k. omega arith }

pub worse_then : (f g h : Found) → IsNoWorse f g → IsNoWorse g h → IsNoWorse f h
worse_then f g h a b = record { same = holder_then f g h a.same b.same; best = λ k. omega (arith, a.best k, b.best k) }
