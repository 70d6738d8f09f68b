-- Worked number texts, by computing.
use Rattle.std.specs.Prelude.{◌≡◌, true, false, pos, negsuc, [], Ok, Err, refl, codes}
use Rattle.std.specs.Fmt.{digits}
use Rattle.num_text.specs.NumberText.{number_of, integer_text, is_canonical}
use Rattle.num_text.specs.declared.number.NumberError.TheVariants.{NotNumber, Fraction, TooWide}

hundred : number_of (codes "1e2") ≡ Ok (pos 100)
hundred = refl

three : number_of (codes "3.0") ≡ Ok (pos 3)
three = refl

four : number_of (codes "+4") ≡ Ok (pos 4)
four = refl

one : number_of (codes "100e-2") ≡ Ok (pos 1)
one = refl

minus_zero : number_of (codes "-0") ≡ Ok (pos 0)
minus_zero = refl

large_exponent : number_of (codes "0e999999999999") ≡ Ok (pos 0)
large_exponent = refl

half : number_of (codes ".5") ≡ Err Fraction
half = refl

no_exponent : number_of (codes "1e") ≡ Err NotNumber
no_exponent = refl

point : number_of (codes ".") ≡ Err NotNumber
point = refl

too_wide : number_of (codes "9223372036854775808") ≡ Err TooWide
too_wide = refl

greatest : number_of (codes "-9223372036854775807") ≡ Ok (negsuc 9223372036854775806)
greatest = refl

two_points : number_of (codes "1.2.3") ≡ Err NotNumber
two_points = refl

two_signs : number_of (codes "--1") ≡ Err NotNumber
two_signs = refl

point_in_exponent : number_of (codes "1e2.0") ≡ Err NotNumber
point_in_exponent = refl

producer : number_of (codes "-2.0000000000e+00") ≡ Ok (negsuc 1)
producer = refl

empty : number_of [] ≡ Err NotNumber
empty = refl

text : integer_text (negsuc 41) ≡ codes "-42"
unfolding digits
text = refl

-- digits alone, with no leading zero
zero_text : is_canonical (codes "0") ≡ true
zero_text = refl

negative_text : is_canonical (codes "-70") ≡ true
negative_text = refl

leading_zero : is_canonical (codes "07") ≡ false
leading_zero = refl

negative_zero : is_canonical (codes "-0") ≡ false
negative_zero = refl

plus_sign : is_canonical (codes "+7") ≡ false
plus_sign = refl

no_digits : is_canonical (codes "-") ≡ false
no_digits = refl

-- the shift counts the digits behind the point, and the exponent moves the point both ways
shifted_up : number_of (codes "1.25e3") ≡ Ok (pos 1250)
shifted_up = refl

shifted_down : number_of (codes "-2500.0E-2") ≡ Ok (negsuc 24)
shifted_down = refl

-- a fraction comes before the width
wide_fraction : number_of (codes "9223372036854775808.5") ≡ Err Fraction
wide_fraction = refl

sign_alone : number_of (codes "+") ≡ Err NotNumber
sign_alone = refl

no_mantissa : number_of (codes "e5") ≡ Err NotNumber
no_mantissa = refl

two_exponents : number_of (codes "1e2e3") ≡ Err NotNumber
two_exponents = refl

blank_behind : number_of (codes "1 ") ≡ Err NotNumber
blank_behind = refl
