use Rattle.std.proofs.Common.{◌≡◌, ℕ, ◌+◌, true, get_or, refl, arith, sym, ◌∙◌, add-one}
use Rattle.std.specs.Char.{is_ascii_digit, digit_value}
use Rattle.std.proofs.lemmas.List.Folds.{list_all_more}
use Rattle.std.proofs.lemmas.Int.Digits.{digits_value_more}
use Rattle.std.proofs.lemmas.Str.{digit_value_digit}
use Rattle.std.proofs.Math.Nat.{pow-suc}
use Rattle.dv_http.proofs.headers.length_of.Goals as goal

pub loop-byte-preserved : goal.loop-byte-preserved
loop-byte-preserved c =
    let byte : ℕ = get_or c.args.text.now c.loop-byte.byte-index 0 in
    let is : is_ascii_digit byte ≡ true = sym c.is_ascii_digit.ensures.value ∙ c.if-not-is_ascii_digit.false in
    let more = list_all_more is_ascii_digit c.args.text.now c.loop-byte.byte-index 0 c.loop-byte-test.true in
    let value = digits_value_more 10 c.args.text.now c.loop-byte.byte-index c.loop-byte-test.true in
    let digit : digit_value byte + 48 ≡ byte = digit_value_digit byte c.if-not-is_ascii_digit.ensures.cases in
    record {
      digits = rw (more, c.loop-byte.invariant.digits, is) refl;
      number = omega (arith, value, c.loop-byte.invariant.number, digit, c.from.ensures);
      small = rw (add-one, pow-suc)
          (omega (arith, c.loop-byte.invariant.small, digit, c.from.ensures, c.if-not-is_ascii_digit.ensures.bound));
    }
