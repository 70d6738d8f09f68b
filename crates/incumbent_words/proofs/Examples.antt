-- Worked examples: the words of one scenario, a master that offers 5 and a member that offers 9.
use Rattle.std.specs.Prelude.{◌≡◌, ◌<◌, ℕ, pos, negsuc, List, [], ◌∷◌, Bool, true, false, None, Some, refl}
use Rattle.std.proofs.Common.{arith}
use Rattle.incumbent_words.specs.declared.view.View.{View}
use Rattle.incumbent_words.specs.Codes.{no_value, code, code_of}
use Rattle.incumbent_words.specs.Rule.{Keeps, HasAll, none_for, master_view, looked, offered, one_more, member_of, note_of, joined, least_offer}

abbrev pub five : ℕ
five = code (pos 5)

abbrev pub nine : ℕ
nine = code (pos 9)

abbrev pub view : ℕ → ℕ → List ℕ → Bool → ℕ → View
view cap own numbers leads count = record { caps = cap ∷ []; offers = own ∷ []; numbers = numbers; leads = leads; count = count }

-- ---- codes

-- a lesser value has a lesser code, on both sides of 0, and none has the greatest
codes-rise : code (negsuc 1) < code (negsuc 0)
codes-rise = omega arith

codes-cross : code (negsuc 0) < code (pos 0)
codes-cross = omega arith

none-above : code_of (Some (pos 1000000)) < code_of None
none-above = omega arith

-- the code isn't the value itself
no-bare-value : code (pos 5) ≡ 5 → ⊥
no-bare-value e = omega (arith, e)

-- ---- steps

-- the master offers 5 where no value was known, and the member 9 where the word is 5
abbrev pub master : View
master = view five five (0 ∷ []) true 2

abbrev pub member : View
member = view five nine (1 ∷ []) false 0

master-offers : offered (one_more (master_view 1)) 0 no_value five ≡ master
master-offers = refl

member-offers : offered (member_of (master_view 1)) 0 five nine ≡ member
member-offers = refl

-- a second offer of a greater value leaves the own least offer; the cap is the lesser of the word and the value
offers-again : offered member 0 five (code (pos 12)) ≡ member
offers-again = refl

-- a look changes the cap alone
member-looks : looked member 0 (code (pos 4)) ≡ view (code (pos 4)) nine (1 ∷ []) false 0
member-looks = refl

-- a note has the caps, and neither offer nor number
note-has-caps : note_of member ≡ view five no_value [] false 0
note-has-caps = refl

-- joined, the master has the lesser of the two offers, both numbers and still the count
joins : joined master member ≡ view five five (0 ∷ 1 ∷ []) true 2
joins = refl

joins-other-way : joined member master ≡ view five five (1 ∷ 0 ∷ []) true 2
joins-other-way = refl

-- the word is the least of all offers and not the last one
least-of-both : least_offer 0 (master ∷ member ∷ []) ≡ five
least-of-both = refl

-- ---- what the rule forbids

-- the word may not be a value that was offered later and is greater
word-is-least : Keeps 1 (nine ∷ []) (master ∷ member ∷ []) → ⊥
word-is-least h = let e : nine ≡ five = h.least 0 (omega arith) in omega (arith, e)

-- a word without an offer
word-is-offered : Keeps 1 (code (pos 4) ∷ []) (master ∷ member ∷ []) → ⊥
word-is-offered h = let e : code (pos 4) ≡ five = h.least 0 (omega arith) in omega (arith, e)

-- a cap below the word
cap-above-word : Keeps 1 (five ∷ []) (master ∷ view (code (pos 4)) nine (1 ∷ []) false 0 ∷ []) → ⊥
cap-above-word h = let e = (h.each 1 _ refl).above 0 (omega arith) in omega (arith, e)

-- a cap above the own offer
cap-below-own : Keeps 1 (five ∷ []) (master ∷ view (code (pos 10)) nine (1 ∷ []) false 0 ∷ []) → ⊥
cap-below-own h = let e = (h.each 1 _ refl).below 0 (omega arith) in omega (arith, e)

-- an offer of a view without numbers
offer-has-number : Keeps 1 (five ∷ []) (master ∷ member ∷ view five five [] false 0 ∷ []) → ⊥
offer-has-number h = let e : five ≡ no_value = (h.each 2 _ refl).idle refl 0 (omega arith) in omega (arith, e)

-- two views with the count, and none
one-leads : Keeps 1 (five ∷ []) (master ∷ view five nine (1 ∷ []) true 0 ∷ []) → ⊥
one-leads h = let e : 2 ≡ 1 = h.leader in omega (arith, e)

some-leads : Keeps 1 (nine ∷ []) (member ∷ []) → ⊥
some-leads h = let e : 0 ≡ 1 = h.leader in omega (arith, e)

-- a number that two views have, one that no view has, and one that wasn't given
number-once : Keeps 1 (five ∷ []) (master ∷ member ∷ member ∷ []) → ⊥
number-once h = let e : 2 ≡ 1 = (h.numbers 1).0 (omega arith) in omega (arith, e)

number-kept : Keeps 1 (five ∷ []) (master ∷ note_of member ∷ []) → ⊥
number-kept h = let e : 0 ≡ 1 = (h.numbers 1).0 (omega arith) in omega (arith, e)

number-given : Keeps 1 (five ∷ []) (master ∷ member ∷ view five nine (2 ∷ []) false 0 ∷ []) → ⊥
number-given h = let e : 1 ≡ 0 = (h.numbers 2).1 (omega arith) in omega (arith, e)

-- the count alone isn't all numbers
master-lacks-one : HasAll master → ⊥
master-lacks-one h = let e : 0 < 0 = h.1 1 (omega arith) in omega (arith, e)
