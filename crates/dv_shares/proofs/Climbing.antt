-- A climb from a row up to its highest parent that waits.
use Rattle.std.proofs.Common.{◌≡◌, refl, sym, ap, subst, ◌∙◌, ℕ, suc, ◌⊎◌, inl, inr, Bool, true, false, List, [], ◌∷◌, ◌++◌, reverse, is_some, ◌<◌, zero, length, get_or, arith}
use Rattle.std.proofs.lemmas.Bool.{true≢false}
use Rattle.std.proofs.lemmas.List.{append-nil, append_assoc, reverse-append}
use Rattle.std.proofs.lemmas.List.Folds.{list_any-append}
use Rattle.std.specs.Prelude.{◌&&◌, ◌||◌, not, cond, Option, None, Some, IsTrue}
use Rattle.std.specs.BTreeSet.{BTreeSet}
use Rattle.dv_schema.specs.declared.definition.Definition.{Definition}
use Rattle.dv_store.specs.declared.keys.RowKey.{RowKey}
use Rattle.dv_store.specs.Keys.{is_row}
use Rattle.dv_store.specs.World.{World}
use Rattle.dv_cascade.specs.Chains.{is_among, Chain}
use Rattle.dv_cascade.specs.Circles.{HasNoCircle, IsUnderParent}
use Rattle.dv_shares.specs.declared.heirs.Heir.{Heir}
use Rattle.dv_shares.specs.Heirs.{if_waiting, is_heir, is_it, waits, AreClimbed, AreHeirs, AreTaken, IsNamed, IsStretch, ParentsFirst}
use Rattle.dv_shares.proofs.Clearing.{row_is, row_itself}
use Rattle.dv_shares.proofs.Principals.{or-left, or-right}

pub or-split : (a b : Bool) → IsTrue (a || b) → IsTrue a ⊎ IsTrue b
or-split true b h = inl refl
or-split false b h = inr h

pub and-parts : (a b : Bool) → IsTrue (a && b) → IsTrue a × IsTrue b
and-parts true b h = (refl, h)
and-parts false b h = absurd (true≢false (sym h))

pub not_true : (b : Bool) → (IsTrue b → ⊥) → b ≡ false
not_true true h = absurd (h refl)
not_true false h = refl

pub same_row : (a b : RowKey) → Some a ≡ Some b → a ≡ b
same_row a b e = cc

-- a row that is taken is the one above, and waited
pub taken_is : (waiting : BTreeSet RowKey) (above : Option RowKey) (row : RowKey) → Some row ≡ if_waiting waiting above → (above ≡ Some row) × (waits waiting row ≡ true)
taken_is waiting None row e = absurd (true≢false (ap is_some e))
taken_is waiting (Some other) row e = of (waits waiting other) refl e
  where
    of : (b : Bool) → waits waiting other ≡ b → Some row ≡ cond b (Some other) None → (Some other ≡ Some row) × (waits waiting row ≡ true)
    of false w e = absurd (true≢false (ap is_some e))
    of true w e = let same = same_row row other e in (sym e, subst (λ (k : RowKey). waits waiting k ≡ true) (sym same) w)

-- where none is taken, the one above doesn't wait
pub not_taken : (waiting : BTreeSet RowKey) (above : Option RowKey) (row : RowKey) → None ≡ if_waiting waiting above → above ≡ Some row → waits waiting row ≡ false
not_taken waiting above row e is = of (waits waiting row) refl (e ∙ ap (if_waiting waiting) is)
  where
    of : (b : Bool) → waits waiting row ≡ b → None ≡ cond b (Some row) None → b ≡ false
    of false w e = refl
    of true w e = absurd (true≢false (sym (ap is_some e)))

module _ (w : World) (d : Definition) where
  -- so many parental links lead up from one row to another, one at least
  pub record IsAbove (low high : RowKey) : Type 0 where
    pub links : ℕ
    pub chain : Chain (IsUnderParent w d) (suc links) low high

  one_above : (low high : RowKey) → IsUnderParent w d low high → IsAbove low high
  unfolding Chain
  one_above low high under = record { links = 0; chain = (low, (refl, under)) }

  more_above : (low mid high : RowKey) → IsAbove low mid → IsUnderParent w d mid high → IsAbove low high
  unfolding Chain
  more_above low mid high is under = record { links = suc is.links; chain = (mid, (is.chain, under)) }

  -- what is known on the way up from a row
  pub record Climbs (row : RowKey) (old now : BTreeSet RowKey) (heirs : List Heir) (above : Option RowKey) : Type 0 where
    pub stretch : IsStretch w d row heirs above
    pub taken : AreTaken old now heirs
    pub over : (low high : RowKey) → IsTrue (is_heir heirs low) → above ≡ Some high → IsAbove low high

  pub climb-begun : (row : RowKey) (old : BTreeSet RowKey) → Climbs row old old [] (Some row)
  unfolding IsStretch
  climb-begun row old = record {
    stretch = refl;
    taken = record { left = λ k. all (waits old k); only = λ k h. absurd (true≢false (sym h)) };
    over = λ low high h. absurd (true≢false (sym h));
  }
    where
      all : (b : Bool) → b ≡ (b && true)
      all true = refl
      all false = refl

  pub climb-more : (row : RowKey) (old now new : BTreeSet RowKey) (path path' : List Heir) (above : Option RowKey) (heir : Heir) → path' ≡ path ++ heir ∷ [] → Some heir.row ≡ if_waiting now above
      → ((k : RowKey) → waits new k ≡ (waits now k && not (is_it (Some heir.row) k))) → IsNamed w d heir → Climbs row old now (reverse path) above → Climbs row old new (reverse path') heir.parent
  unfolding IsStretch
  climb-more row old now new path path' above heir e took left named climbs = subst (λ heirs. Climbs row old new heirs heir.parent) (sym (ap reverse e ∙ reverse-append path (heir ∷ []))) (more (reverse path) climbs)
    where
      is : (above ≡ Some heir.row) × (waits now heir.row ≡ true)
      is = taken_is now above heir.row took

      more : (heirs : List Heir) → Climbs row old now heirs above → Climbs row old new (heir ∷ heirs) heir.parent
      more heirs climbs = record {
        stretch = (refl, (named, (fresh (is_heir heirs heir.row) refl, subst (IsStretch w d row heirs) is.0 climbs.stretch)));
        taken = record {
          left = λ k. left k ∙ ap (λ b. b && not (is_row k heir.row)) (climbs.taken.left k) ∙ either (waits old k) (is_heir heirs k) (is_row k heir.row);
          only = λ k h. only k (or-split (is_row k heir.row) (is_heir heirs k) h);
        };
        over = λ low high h p. over low high (or-split (is_row low heir.row) (is_heir heirs low) h) ((named.under high).0 p);
      }
        where
          waited : IsTrue (waits old heir.row && not (is_heir heirs heir.row))
          waited = sym (climbs.taken.left heir.row) ∙ is.1

          fresh : (b : Bool) → is_heir heirs heir.row ≡ b → b ≡ false
          fresh false h = refl
          fresh true h = absurd (true≢false (sym ((and-parts (waits old heir.row) (not (is_heir heirs heir.row)) waited).1) ∙ ap not h))

          either : (a b c : Bool) → ((a && not b) && not c) ≡ (a && not (c || b))
          either true true true = refl
          either true true false = refl
          either true false true = refl
          either true false false = refl
          either false b c = refl

          only : (k : RowKey) → IsTrue (is_row k heir.row) ⊎ IsTrue (is_heir heirs k) → IsTrue (waits old k)
          only k (inl it) = subst (λ (x : RowKey). IsTrue (waits old x)) (sym (row_is k heir.row it)) (and-parts (waits old heir.row) (not (is_heir heirs heir.row)) waited).0
          only k (inr there) = climbs.taken.only k there

          over : (low high : RowKey) → IsTrue (is_row low heir.row) ⊎ IsTrue (is_heir heirs low) → IsUnderParent w d heir.row high → IsAbove low high
          over low high (inl it) under = one_above low high (subst (λ (x : RowKey). IsUnderParent w d x high) (sym (row_is low heir.row it)) under)
          over low high (inr there) under = more_above low heir.row high (climbs.over low heir.row there is.0) under

  pub climb-end : HasNoCircle w d → (row : RowKey) (old now new : BTreeSet RowKey) (heirs : List Heir) (above : Option RowKey) → None ≡ if_waiting now above → ((k : RowKey) → waits new k ≡ (waits now k && not (is_it None k))) → Climbs row old now heirs above → AreClimbed w d row old new heirs
  climb-end no_circle row old now new heirs above none left climbs = record {
    end = above;
    stretch = climbs.stretch;
    ended = λ high is. of high is (waits old high) (is_heir heirs high) refl refl (sym (climbs.taken.left high) ∙ not_taken now above high none is);
    taken = record { left = λ k. left k ∙ all (waits now k) ∙ climbs.taken.left k; only = climbs.taken.only };
  }
    where
      all : (b : Bool) → (b && true) ≡ b
      all true = refl
      all false = refl

      of : (high : RowKey) → above ≡ Some high → (a b : Bool) → waits old high ≡ a → is_heir heirs high ≡ b → (waits old high && not (is_heir heirs high)) ≡ false → a ≡ false
      of high is false b wa hb e = refl
      of high is true true wa hb e = let over = climbs.over high high hb is in absurd (no_circle high over.links over.chain)
      of high is true false wa hb e = absurd (true≢false (sym (ap (λ x. x && not (is_heir heirs high)) wa ∙ ap not hb) ∙ e))

  module _ (set : List RowKey) where
    pub first-both : (before xs ys : List Heir) → ParentsFirst w d set before xs → ParentsFirst w d set (before ++ xs) ys → ParentsFirst w d set before (xs ++ ys)
    unfolding ParentsFirst
    first-both before [] ys xs_first ys_first = subst (λ b. ParentsFirst w d set b ys) (append-nil before) ys_first
    first-both before (x ∷ xs) ys xs_first ys_first = (xs_first.0, first-both (before ++ x ∷ []) xs ys xs_first.1 (subst (λ b. ParentsFirst w d set b ys) (sym (append_assoc before (x ∷ []) xs)) ys_first))

    -- heirs down to a row, each the parent of the next, may stand behind those that have the parent of the first
    pub stretch-first : (row : RowKey) (before heirs : List Heir) (end : Option RowKey) → IsStretch w d row heirs end → ((k : RowKey) → IsTrue (is_heir heirs k) → is_heir before k ≡ false)
        → ((high : RowKey) → end ≡ Some high → IsTrue (is_among set high) → IsTrue (is_heir before high)) → ParentsFirst w d set before heirs
    unfolding IsStretch ParentsFirst
    stretch-first row before [] end stretch apart top = tt
    stretch-first row before (heir ∷ heirs) end stretch apart top = (
      record { named = stretch.1.0; new = apart heir.row (or-left (is_row heir.row heir.row) (is_heir heirs heir.row) (row_itself heir.row)); behind = λ high is among. top high (sym stretch.0 ∙ is) among },
      stretch-first row (before ++ heir ∷ []) heirs (Some heir.row) stretch.1.1.1 later (λ high is among. subst (λ (k : RowKey). IsTrue (is_heir (before ++ heir ∷ []) k)) (same_row heir.row high is) last),
    )
      where
        last : IsTrue (is_heir (before ++ heir ∷ []) heir.row)
        last = list_any-append (λ (h : Heir). is_row heir.row h.row) before (heir ∷ []) ∙ or-right (is_heir before heir.row) (is_heir (heir ∷ []) heir.row) (or-left (is_row heir.row heir.row) false (row_itself heir.row))

        both : (a b : Bool) → a ≡ false → b ≡ false → (a || (b || false)) ≡ false
        both false false p q = refl
        both true b p q = absurd (true≢false p)
        both false true p q = absurd (true≢false q)

        other : (k : RowKey) → IsTrue (is_heir heirs k) → is_row k heir.row ≡ false
        other k h = not_true (is_row k heir.row) (λ it. true≢false (sym (subst (λ (x : RowKey). IsTrue (is_heir heirs x)) (row_is k heir.row it) h) ∙ stretch.1.1.0))

        later : (k : RowKey) → IsTrue (is_heir heirs k) → is_heir (before ++ heir ∷ []) k ≡ false
        later k h = list_any-append (λ (x : Heir). is_row k x.row) before (heir ∷ []) ∙ both (is_heir before k) (is_row k heir.row) (apart k (or-right (is_row k heir.row) (is_heir heirs k) h)) (other k h)

  -- heirs from below an end down to a row have the row, or it is the end itself
  pub stretch-has : (row : RowKey) (heirs : List Heir) (end : Option RowKey) → IsStretch w d row heirs end → (end ≡ Some row) ⊎ IsTrue (is_heir heirs row)
  unfolding IsStretch
  stretch-has row [] end stretch = inl stretch
  stretch-has row (heir ∷ heirs) end stretch = of (stretch-has row heirs (Some heir.row) stretch.1.1.1)
    where
      of : (Some heir.row ≡ Some row) ⊎ IsTrue (is_heir heirs row) → (end ≡ Some row) ⊎ IsTrue (is_heir (heir ∷ heirs) row)
      of (inl it) = inr (or-left (is_row row heir.row) (is_heir heirs row) (subst (λ (k : RowKey). is_row row k ≡ true) (sym (same_row heir.row row it)) (row_itself row)))
      of (inr there) = inr (or-right (is_row row heir.row) (is_heir heirs row) there)

-- what is known of the heirs so far, where those that don't wait are among them
pub record SomeHeirs (w : World) (d : Definition) (set : List RowKey) (waiting : BTreeSet RowKey) (done : RowKey → Bool) (heirs : List Heir) : Type 0 where
  pub first : ParentsFirst w d set [] heirs
  pub left : (row : RowKey) → waits waiting row ≡ (is_among set row && not (is_heir heirs row))
  pub only : (row : RowKey) → IsTrue (is_heir heirs row) → IsTrue (is_among set row)
  pub found : (row : RowKey) → IsTrue (done row) → IsTrue (is_heir heirs row)

pub heirs-begun : (w : World) (d : Definition) (set : List RowKey) (waiting : BTreeSet RowKey) → ((row : RowKey) → waits waiting row ≡ is_among set row) → SomeHeirs w d set waiting (λ row. false) []
unfolding ParentsFirst
heirs-begun w d set waiting is = record { first = tt; left = λ row. is row ∙ all (is_among set row); only = λ row h. absurd (true≢false (sym h)); found = λ row h. absurd (true≢false (sym h)) }
  where
    all : (b : Bool) → b ≡ (b && true)
    all true = refl
    all false = refl

-- the heirs of one climb more
pub heirs-more : (w : World) (d : Definition) (set : List RowKey) (waiting new : BTreeSet RowKey) (done : RowKey → Bool) (heirs more : List Heir) (row : RowKey) → IsTrue (is_among set row) → SomeHeirs w d set waiting done heirs → AreClimbed w d row waiting new more
    → SomeHeirs w d set new (λ other. done other || is_row other row) (heirs ++ more)
heirs-more w d set waiting new done heirs more row among some climbed = record {
  first = first-both w d set [] heirs more some.first (stretch-first w d set row heirs more climbed.end climbed.stretch apart top);
  left = λ k. climbed.taken.left k ∙ ap (λ b. b && not (is_heir more k)) (some.left k) ∙ either (is_among set k) (is_heir heirs k) (is_heir more k) ∙ ap (λ b. is_among set k && not b) (sym (in_both k));
  only = λ k h. only k (or-split (is_heir heirs k) (is_heir more k) (sym (in_both k) ∙ h));
  found = λ k h. found k (or-split (done k) (is_row k row) h);
}
  where
    in_both : (k : RowKey) → is_heir (heirs ++ more) k ≡ (is_heir heirs k || is_heir more k)
    in_both k = list_any-append (λ (h : Heir). is_row k h.row) heirs more

    either : (a b c : Bool) → ((a && not b) && not c) ≡ (a && not (b || c))
    either true true c = refl
    either true false true = refl
    either true false false = refl
    either false b c = refl

    waited : (k : RowKey) → IsTrue (waits waiting k) → IsTrue (is_among set k) × IsTrue (not (is_heir heirs k))
    waited k h = and-parts (is_among set k) (not (is_heir heirs k)) (sym (some.left k) ∙ h)

    apart : (k : RowKey) → IsTrue (is_heir more k) → is_heir heirs k ≡ false
    apart k h = not_true (is_heir heirs k) (λ there. true≢false (sym (waited k (climbed.taken.only k h)).1 ∙ ap not there))

    -- a row of the set that doesn't wait is an heir
    got : (k : RowKey) → IsTrue (is_among set k) → waits waiting k ≡ false → (b : Bool) → is_heir heirs k ≡ b → b ≡ true
    got k there none true h = refl
    got k there none false h = absurd (true≢false (sym (some.left k ∙ ap (λ x. x && not (is_heir heirs k)) there ∙ ap not h) ∙ none))

    top : (high : RowKey) → climbed.end ≡ Some high → IsTrue (is_among set high) → IsTrue (is_heir heirs high)
    top high is there = got high there (climbed.ended high is) (is_heir heirs high) refl

    only : (k : RowKey) → IsTrue (is_heir heirs k) ⊎ IsTrue (is_heir more k) → IsTrue (is_among set k)
    only k (inl h) = some.only k h
    only k (inr h) = (waited k (climbed.taken.only k h)).0

    of_row : (climbed.end ≡ Some row) ⊎ IsTrue (is_heir more row) → IsTrue (is_heir (heirs ++ more) row)
    of_row (inl is) = in_both row ∙ or-left (is_heir heirs row) (is_heir more row) (top row is among)
    of_row (inr h) = in_both row ∙ or-right (is_heir heirs row) (is_heir more row) h

    found : (k : RowKey) → IsTrue (done k) ⊎ IsTrue (is_row k row) → IsTrue (is_heir (heirs ++ more) k)
    found k (inl h) = in_both k ∙ or-left (is_heir heirs k) (is_heir more k) (some.found k h)
    found k (inr is) = subst (λ (x : RowKey). IsTrue (is_heir (heirs ++ more) x)) (sym (row_is k row is)) (of_row (stretch-has w d row more climbed.end climbed.stretch))

pub heirs-said : (w : World) (d : Definition) (set : List RowKey) (waiting : BTreeSet RowKey) (done other : RowKey → Bool) (heirs heirs' : List Heir) → ((row : RowKey) → other row ≡ done row) → heirs' ≡ heirs → SomeHeirs w d set waiting done heirs → SomeHeirs w d set waiting other heirs'
heirs-said w d set waiting done other heirs heirs' same e some = subst (λ hs. SomeHeirs w d set waiting other hs) (sym e) (record { first = some.first; left = some.left; only = some.only; found = λ row h. some.found row (sym (same row) ∙ h) })

pub heirs-end : (w : World) (d : Definition) (set : List RowKey) (waiting : BTreeSet RowKey) (done : RowKey → Bool) (heirs : List Heir) → ((row : RowKey) → done row ≡ is_among set row) → SomeHeirs w d set waiting done heirs → AreHeirs w d set heirs
heirs-end w d set waiting done heirs all some = record { exactly = λ row. both (is_heir heirs row) (is_among set row) (some.only row) (λ h. some.found row (all row ∙ h)); parents_first = some.first }
  where
    both : (a b : Bool) → (IsTrue a → IsTrue b) → (IsTrue b → IsTrue a) → a ≡ b
    both true b to from = sym (to refl)
    both false true to from = from refl
    both false false to from = refl

pub among_index : (set : List RowKey) (i : ℕ) (d : RowKey) → i < length set → IsTrue (is_among set (get_or set i d))
among_index [] i d l = absurd (omega (arith, l))
among_index (row ∷ rows) zero d l = or-left (is_row row row) (is_among rows row) (row_itself row)
among_index (row ∷ rows) (suc i) d l = or-right (is_row (get_or rows i d) row) (is_among rows (get_or rows i d)) (among_index rows i d (omega (arith, l)))
