-- What a kind makes of a raw value keeps to the kind, and a value that keeps to it is made again of its own raw value.
use Rattle.std.proofs.Common.{◌≡◌, ◌⊎◌, inl, inr, ℕ, ◌<◌, ◌^◌, ◌≤ℤ◌, ℤ, pos, negsuc, FitsSigned, w32, w64, to_z, of_z, lt-ltb, arith, refl, ap, ◌∙◌, Bool, true, false, T, ◌&&◌, List, length, encode_utf8_all, Option, Some, None, Result, Ok, Err, IfOk, int_le, leb-true, le-leb}
use Rattle.std.proofs.lemmas.Int.{ints}
use Rattle.dv_value.specs.Amount.{amount_of}
use Rattle.dv_value.specs.Ids.{id_of}
use Rattle.dv_value.specs.Moment.{moment_of}
use Rattle.dv_value.specs.Spelling.{tag_of}
use Rattle.dv_value.specs.Typing.{is_32, in_limits, said, typed_truth, typed_number, typed_text, kind_tag, scale_of, IsOfKind, IsWithin}
use Rattle.dv_value.specs.declared.kind.Kind.{Kind}
use Rattle.dv_value.specs.declared.kind.Kind.TheVariants.{Flag as FlagKind, Whole as WholeKind, Choice as ChoiceKind, Amount as AmountKind, Moment as MomentKind, Text as TextKind, Ref as RefKind}
use Rattle.dv_value.specs.declared.id.Id.{Id}
use Rattle.dv_value.specs.declared.typing.TypeFault.{TypeFault}
use Rattle.dv_value.specs.declared.value.Value.{Value}
use Rattle.dv_value.specs.declared.value.Value.TheVariants.{Empty, Flag, Whole, Choice, Amount, Moment, Text, Ref}

both : (a b : Bool) → (a && b) ≡ true → (a ≡ true) × (b ≡ true)
both true true e = (refl, refl)
both true false e = (refl, e)
both false b e = absurd (cc)

at_most : (a b : ℤ) → int_le a b ≡ true → a ≤ℤ b
at_most a b e = record { le = passed (int_le a b) e }
  where
    passed : (t : Bool) → t ≡ true → T t
    passed true e = tt
    passed false e = absurd (cc e)

tested : (a b : ℤ) → a ≤ℤ b → int_le a b ≡ true
tested a b h = held (int_le a b) h.le
  where
    held : (t : Bool) → T t → t ≡ true
    held true h = refl
    held false h = absurd h

-- ---- what is typed keeps to the kind

abbrev pub Keeps : Kind → Value → Type 0
Keeps kind value = IsOfKind kind value × IsWithin kind value

limits : (kind : Kind) (test : Bool) (value : Value) → IsOfKind kind value → (test ≡ true → IsWithin kind value) → IfOk (in_limits test value) (Keeps kind)
limits kind true value of within = (of, within refl)
limits kind false value of within = tt

says : {A : Type 0} (kind : Kind) (make : A → Value) (o : Option A) → ((x : A) → Keeps kind (make x)) → IfOk (said make o) (Keeps kind)
unfolding said
says kind make (Some x) keeps = keeps x
says kind make None keeps = tt

pub empty_keeps : (kind : Kind) → Keeps kind Empty
unfolding tag_of IsWithin
empty_keeps FlagKind = (inl refl, tt)
empty_keeps (WholeKind min max) = (inl refl, tt)
empty_keeps (ChoiceKind options) = (inl refl, tt)
empty_keeps (AmountKind scale) = (inl refl, tt)
empty_keeps MomentKind = (inl refl, tt)
empty_keeps (TextKind max) = (inl refl, tt)
empty_keeps RefKind = (inl refl, tt)

truth_keeps : (kind : Kind) (flag : Bool) → IfOk (typed_truth kind flag) (Keeps kind)
unfolding typed_truth tag_of kind_tag IsWithin
truth_keeps FlagKind flag = (inr refl, tt)
truth_keeps (WholeKind min max) flag = tt
truth_keeps (ChoiceKind options) flag = tt
truth_keeps (AmountKind scale) flag = tt
truth_keeps MomentKind flag = tt
truth_keeps (TextKind max) flag = tt
truth_keeps RefKind flag = tt

number_keeps : (kind : Kind) (n : ℤ) → IfOk (typed_number kind n) (Keeps kind)
unfolding typed_number tag_of kind_tag IsWithin
number_keeps FlagKind n = tt
number_keeps (WholeKind min max) n =
    limits (WholeKind min max) _ (Whole n) (inr refl) (λ e.
    let (front, high) = both _ _ e in
    let (_, low) = both _ _ front in
    (at_most min n low, at_most n max high))
number_keeps (ChoiceKind options) n = limits (ChoiceKind options) _ (Choice n) (inr refl) (λ e. (both _ _ e).1)
number_keeps (AmountKind scale) n = tt
number_keeps MomentKind n = tt
number_keeps (TextKind max) n = tt
number_keeps RefKind n = tt

text_keeps : (kind : Kind) (text : List ℕ) → IfOk (typed_text kind text) (Keeps kind)
unfolding typed_text tag_of kind_tag IsWithin
text_keeps FlagKind text = tt
text_keeps (WholeKind min max) text = tt
text_keeps (ChoiceKind options) text = tt
text_keeps (AmountKind scale) text = says (AmountKind scale) Amount (amount_of scale (encode_utf8_all text)) (λ x. (inr refl, tt))
text_keeps MomentKind text = says MomentKind Moment (moment_of (encode_utf8_all text)) (λ x. (inr refl, tt))
text_keeps (TextKind max) text = limits (TextKind max) _ (Text text) (inr refl) (λ e. leb-true (length text) max e)
text_keeps RefKind text = says RefKind (λ id. Ref (record { 0 = id })) (id_of (encode_utf8_all text)) (λ x. (inr refl, tt))

front : (kind : Kind) (r : Result Value TypeFault) → IfOk r (Keeps kind) → IfOk r (λ value. IsOfKind kind value) × IfOk r (λ value. IsWithin kind value)
front kind (Ok value) keeps = (keeps.0, keeps.1)
front kind (Err fault) keeps = (tt, tt)

pub truth_of_kind : (kind : Kind) (flag : Bool) (r : Result Value TypeFault) → r ≡ typed_truth kind flag → IfOk r (λ value. IsOfKind kind value)
truth_of_kind kind flag r e = rw e (front kind _ (truth_keeps kind flag)).0

pub truth_within : (kind : Kind) (flag : Bool) (r : Result Value TypeFault) → r ≡ typed_truth kind flag → IfOk r (λ value. IsWithin kind value)
truth_within kind flag r e = rw e (front kind _ (truth_keeps kind flag)).1

pub number_of_kind : (kind : Kind) (n : ℤ) (r : Result Value TypeFault) → r ≡ typed_number kind n → IfOk r (λ value. IsOfKind kind value)
number_of_kind kind n r e = rw e (front kind _ (number_keeps kind n)).0

pub number_within : (kind : Kind) (n : ℤ) (r : Result Value TypeFault) → r ≡ typed_number kind n → IfOk r (λ value. IsWithin kind value)
number_within kind n r e = rw e (front kind _ (number_keeps kind n)).1

text_front : (kind : Kind) (text : List ℕ) (r : Result Value TypeFault) → IfOk r (λ value. typed_text kind text ≡ Ok value) → IfOk r (Keeps kind)
text_front kind text (Ok value) is = rw is at (text_keeps kind text)
text_front kind text (Err fault) is = tt

pub text_of_kind : (kind : Kind) (text : List ℕ) (r : Result Value TypeFault) → IfOk r (λ value. typed_text kind text ≡ Ok value) → IfOk r (λ value. IsOfKind kind value)
text_of_kind kind text r is = (front kind r (text_front kind text r is)).0

pub text_within : (kind : Kind) (text : List ℕ) (r : Result Value TypeFault) → IfOk r (λ value. typed_text kind text ≡ Ok value) → IfOk r (λ value. IsWithin kind value)
text_within kind text r is = (front kind r (text_front kind text r is)).1

-- ---- a value that keeps to the kind is typed again

tag_is : (m n : ℕ) → (m ≡ 0) ⊎ (m ≡ n) → 0 < m → m ≡ n
tag_is m n (inl e) some = absurd (omega (arith, e, some))
tag_is m n (inr e) some = e

pub flag_back : (kind : Kind) (flag : Bool) → IsOfKind kind (Flag flag) → typed_truth kind flag ≡ Ok (Flag flag)
unfolding typed_truth tag_of kind_tag
flag_back FlagKind flag of = refl
flag_back kind flag of = absurd (omega (arith, tag_is _ _ of (omega arith)))

whole_back : (kind : Kind) (n : ℤ) → is_32 n ≡ true → IsOfKind kind (Whole n) → IsWithin kind (Whole n) → typed_number kind n ≡ Ok (Whole n)
unfolding typed_number tag_of kind_tag IsWithin
whole_back (WholeKind min max) n small of within = rw (small, tested min n within.0, tested n max within.1) refl
whole_back kind n small of within = absurd (omega (arith, tag_is _ _ of (omega arith)))

choice_back : (kind : Kind) (n : ℤ) → is_32 n ≡ true → IsOfKind kind (Choice n) → IsWithin kind (Choice n) → typed_number kind n ≡ Ok (Choice n)
unfolding typed_number tag_of kind_tag IsWithin
choice_back (ChoiceKind options) n small of within = rw (small, within) refl
choice_back kind n small of within = absurd (omega (arith, tag_is _ _ of (omega arith)))

below_32 : (n : ℤ) → FitsSigned w32 n → is_32 n ≡ true
unfolding is_32
below_32 (pos n) fits = lt-ltb n (2 ^ 31) fits.sfits
below_32 (negsuc n) fits = lt-ltb n (2 ^ 31) fits.sfits

wide : (m n : ℤ) → m ≡ n → FitsSigned w32 n → to_z w64 (of_z w64 m) ≡ n
wide m n e fits = omega (arith, ints, e, fits.sfits)

pub whole_goes_back : (kind : Kind) (n m : ℤ) → m ≡ n → FitsSigned w32 n → IsOfKind kind (Whole n) → IsWithin kind (Whole n) → typed_number kind (to_z w64 (of_z w64 m)) ≡ Ok (Whole n)
whole_goes_back kind n m e fits of within = ap (typed_number kind) (wide m n e fits) ∙ whole_back kind n (below_32 n fits) of within

pub choice_goes_back : (kind : Kind) (n m : ℤ) → m ≡ n → FitsSigned w32 n → IsOfKind kind (Choice n) → IsWithin kind (Choice n) → typed_number kind (to_z w64 (of_z w64 m)) ≡ Ok (Choice n)
choice_goes_back kind n m e fits of within = ap (typed_number kind) (wide m n e fits) ∙ choice_back kind n (below_32 n fits) of within

pub amount_back : (kind : Kind) (amount : ℤ) (text : List ℕ) → IsOfKind kind (Amount amount) → amount_of (scale_of kind) (encode_utf8_all text) ≡ Some amount → typed_text kind text ≡ Ok (Amount amount)
unfolding typed_text said scale_of tag_of kind_tag
amount_back (AmountKind scale) amount text of read = rw read refl
amount_back kind amount text of read = absurd (omega (arith, tag_is _ _ of (omega arith)))

pub moment_back : (kind : Kind) (seconds : ℤ) (text : List ℕ) → IsOfKind kind (Moment seconds) → moment_of (encode_utf8_all text) ≡ Some seconds → typed_text kind text ≡ Ok (Moment seconds)
unfolding typed_text said tag_of kind_tag
moment_back MomentKind seconds text of read = rw read refl
moment_back kind seconds text of read = absurd (omega (arith, tag_is _ _ of (omega arith)))

pub text_back : (kind : Kind) (text : List ℕ) → IsOfKind kind (Text text) → IsWithin kind (Text text) → typed_text kind text ≡ Ok (Text text)
unfolding typed_text tag_of kind_tag IsWithin
text_back (TextKind max) text of within = rw (le-leb (length text) max within) refl
text_back kind text of within = absurd (omega (arith, tag_is _ _ of (omega arith)))

pub ref_back : (kind : Kind) (id : Id) (text : List ℕ) → IsOfKind kind (Ref id) → id_of (encode_utf8_all text) ≡ Some id.0 → typed_text kind text ≡ Ok (Ref id)
unfolding typed_text said tag_of kind_tag
ref_back RefKind id text of read = rw read refl
ref_back kind id text of read = absurd (omega (arith, tag_is _ _ of (omega arith)))
