-- A number is no word.
use Rattle.std.proofs.Common.{◌≡◌, ◌≢◌, ◌<◌, ◌≤◌, ◌^◌, ℕ, List, get_or, ap, arith}
use Rattle.std.specs.Prelude.{codes, decimal}
use Rattle.std.specs.Str.Parse.{AllDigits}
use Rattle.std.proofs.lemmas.Fmt.{decimal_nonempty, digits_decimal}
use Rattle.std.proofs.lemmas.Str.Parse.{digit_at, numerals_by_value, tells_digits}

pub not_collected : (n : ℕ) → n ≤ 4294967295 → decimal n ≢ codes "collected"
not_collected n le e =
    let small : n < 2 ^ 64 = omega (arith, le) in
    let digit = digit_at (decimal n) 0 (digits_decimal (numerals_by_value (AllDigits 10) tells_digits) n small) (decimal_nonempty n small) in
    let first : get_or (decimal n) 0 0 ≡ 99 = ap (λ (l : List ℕ). get_or l 0 0) e in
    omega (arith, digit.1, first)
