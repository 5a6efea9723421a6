-- The order of values is a total one.
use Rattle.std.proofs.Common.{◌≡◌, List, ℕ, refl, sym, ◌∙◌, ap, rules, encode_utf8_all}
use Rattle.caseless.specs.Caseless.{default_case_fold}
use Rattle.std.specs.Ordering.{is_lt, ordering_reverse, nat_cmp}
use Rattle.std.specs.declared.cmp.Ordering.{Ordering}
use Rattle.std.specs.declared.cmp.Ordering.TheVariants.{Less, Equal, Greater}
use Rattle.std.specs.Cmp.{IsTotalOrder, IsStrictWeakOrder, then_total, on_total, nat_cmp_total, int_cmp_total}
use Rattle.std.specs.Cmp.Lexicographic.{slice_cmp}
use Rattle.std.specs.Cmp.Rules.{comparing}
use Rattle.dv_value.specs.Order.{order, folded, text_order, number_of, id_number_of, characters_of}
use Rattle.dv_value.specs.Spelling.{tag_of}
use Rattle.std.proofs.lemmas.List.MinMax.{ranks_by}

texts_total : IsTotalOrder (slice_cmp nat_cmp)
texts_total = search (comparing, rules)

pub total : IsTotalOrder order
unfolding order
total =
    then_total (on_total tag_of nat_cmp_total) (then_total (on_total number_of int_cmp_total)
    (then_total (on_total id_number_of nat_cmp_total) (on_total (λ v. folded (characters_of v)) texts_total)))

own : (o : Ordering) → o ≡ ordering_reverse o → o ≡ Equal
own Less e = absurd (cc e)
own Equal e = refl
own Greater e = absurd (cc e)

-- a text is equal to itself
pub same_text : (a b : List ℕ) → a ≡ b → Equal ≡ text_order a b
same_text a b e = sym (ap (text_order a) (sym e) ∙ own (text_order a a) (texts_total.antisymm (folded a) (folded a)))

pub sorts : IsStrictWeakOrder (λ a b. is_lt (order a b))
sorts = ranks_by total (λ v. v)

-- two texts, by their folded bytes
pub texts_are : (a b left right : List ℕ) → left ≡ encode_utf8_all (default_case_fold a) → right ≡ encode_utf8_all (default_case_fold b) → slice_cmp nat_cmp left right ≡ text_order a b
unfolding folded
texts_are a b left right l r = rw (l, r) refl
