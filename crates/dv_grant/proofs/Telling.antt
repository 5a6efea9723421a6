-- The shares of a row, told one after another.
use Rattle.std.proofs.Common.{rules, ◌≡◌, refl, sym, subst, ap, ◌∙◌, ℕ, ◌≤◌, ◌<◌, Bool, true, false, List, [], ◌∷◌, arith}
use Rattle.std.proofs.lemmas.Bool.{true≢false, eqb-true, ltb-true, ltb-false}
use Rattle.std.specs.Prelude.{Option, Some, None, IsSome, find, cond, ◌==◌, nat_lt}
use Rattle.std.specs.Option.{option_map, unwrap_or}
use Rattle.std.specs.Ordering.{nat_cmp}
use Rattle.std.specs.Cmp.{nat_cmp_is}
use Rattle.std.specs.List.{AllByRecursion}
use Rattle.std.specs.List.Sorted.{IsStrictlySortedBy}
use Rattle.std.specs.declared.cmp.Ordering.TheVariants.{Less}
use Rattle.dv_value.specs.declared.id.Id.{Id}
use Rattle.dv_request.specs.declared.reply.Share.{Share}
use Rattle.dv_store.specs.Cursors.{IsPast, IsNext}
use Rattle.dv_grant.specs.Listing.{told_rights, rights_in}

id_is : (a b : Id) → a.0 ≡ b.0 → a ≡ b
id_is a b e = λ j. record { 0 = e j }

-- a principal past one that is past another is past that
further : (after : Option Id) (next id : Id) → IsPast after next → next.0 < id.0 → IsPast after id
further None next id p l = tt
further (Some after) next id p l = omega (arith, p, l)

module _ (rights_of : Id → Option (ℕ × ℕ)) where
  abbrev HasRights : Id → Type 0
  HasRights id = IsSome (rights_of id)

  -- the shares of the principals past one
  pub record ArePast (after : Option Id) (shares : List Share) : Type 0 where
    pub ascending : IsStrictlySortedBy (λ (a b : Share). nat_cmp a.principal.0 b.principal.0) shares
    pub past : AllByRecursion (λ (s : Share). IsPast after s.principal) shares
    pub each : (principal : Id) → IsPast after principal → rights_in shares principal ≡ rights_of principal

  nothing : (o : Option (ℕ × ℕ)) → (IsSome o → ⊥) → None ≡ o
  nothing None h = refl
  nothing (Some x) h = absurd (h refl)

  -- past the last principal there are none
  pub none_past : (after : Option Id) → IsNext HasRights after None → ArePast after []
  unfolding IsStrictlySortedBy
  none_past after last = record { ascending = tt; past = tt; each = λ principal past. nothing (rights_of principal) (λ has. last principal has past) }

  all_past : (after : Option Id) (next : Id) (shares : List Share) → IsPast after next → AllByRecursion (λ (s : Share). IsPast (Some next) s.principal) shares → AllByRecursion (λ (s : Share). IsPast after s.principal) shares
  all_past after next [] p all = tt
  all_past after next (s ∷ shares) p all = (further after next s.principal p all.0, all_past after next shares p all.1)

  all_less : (share : Share) (next : Id) (shares : List Share) → share.principal ≡ next → AllByRecursion (λ (s : Share). IsPast (Some next) s.principal) shares → AllByRecursion (λ (s : Share). nat_cmp share.principal.0 s.principal.0 ≡ Less) shares
  all_less share next [] is all = tt
  all_less share next (s ∷ shares) is all = (rw is (sym (nat_cmp_is next.0 s.principal.0 Less all.0)), all_less share next shares is all.1)

  -- of a principal that isn't past one, shares past it tell nothing
  not_told : (next principal : Id) (shares : List Share) → principal.0 ≤ next.0 → AllByRecursion (λ (s : Share). IsPast (Some next) s.principal) shares → rights_in shares principal ≡ None
  not_told next principal [] le all = refl
  not_told next principal (s ∷ shares) le all = of (not_told next principal shares le all.1) (s.principal.0 == principal.0) refl
    where
      of : rights_in shares principal ≡ None → (b : Bool) → (s.principal.0 == principal.0) ≡ b → option_map told_rights (cond b (Some s) (find (λ (share : Share). share.principal.0 == principal.0) shares)) ≡ None
      of rest true is = absurd (omega (arith, le, all.0, eqb-true s.principal.0 principal.0 is))
      of rest false is = rest

  given : (o : Option (ℕ × ℕ)) → IsSome o → Some (unwrap_or o (0, 0)) ≡ o
  given None h = absurd (true≢false (sym h))
  given (Some x) h = refl

  -- the next principal's share before the shares past it
  pub more : (after : Option Id) (next : Id) (share : Share) (shares : List Share) → IsNext HasRights after (Some next) → share.principal ≡ next → told_rights share ≡ unwrap_or (rights_of next) (0, 0)
      → ArePast (Some next) shares → ArePast after (share ∷ shares)
  unfolding IsStrictlySortedBy
  more after next share shares n is has rest = record {
    ascending = (all_less share next shares is rest.past, rest.ascending);
    past = (subst (IsPast after) (sym is) n.past, all_past after next shares n.past rest.past);
    each = each;
  }
    where
      each : (principal : Id) → IsPast after principal → rights_in (share ∷ shares) principal ≡ rights_of principal
      each principal past = of (share.principal.0 == principal.0) refl
        where
          of : (b : Bool) → (share.principal.0 == principal.0) ≡ b → option_map told_rights (cond b (Some share) (find (λ (s : Share). s.principal.0 == principal.0) shares)) ≡ rights_of principal
          of true e = ap Some has ∙ given (rights_of next) n.there ∙ ap rights_of (sym is ∙ id_is share.principal principal (eqb-true share.principal.0 principal.0 e))
          of false e = by (nat_lt next.0 principal.0) refl
            where
              by : (b : Bool) → nat_lt next.0 principal.0 ≡ b → rights_in shares principal ≡ rights_of principal
              by true lt = rest.each principal (ltb-true next.0 principal.0 lt)
              by false ge = not_told next principal shares (ltb-false next.0 principal.0 ge) rest.past ∙ nothing (rights_of principal) (λ there. absurd (true≢false (sym (differs there) ∙ e)))
                where
                  same : (n : ℕ) → (n == n) ≡ true
                  same n = search rules

                  meets : IsSome (rights_of principal) → principal.0 ≡ share.principal.0
                  meets there = omega (arith, n.least principal there past, ltb-false next.0 principal.0 ge, ap (λ (x : Id). x.0) is)

                  differs : IsSome (rights_of principal) → (share.principal.0 == principal.0) ≡ true
                  differs there = ap (λ m. share.principal.0 == m) (meets there) ∙ same share.principal.0
