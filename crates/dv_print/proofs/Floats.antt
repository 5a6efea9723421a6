-- No reply has a float in it.
use Rattle.std.proofs.Common.{◌≡◌, ℕ, List, [], ◌∷◌, map, Bool, false, Option, Some, None, refl, ◌∙◌, ap, subst}
use Rattle.serde_json.specs.Data.{Data, Members}
use Rattle.serde_json.specs.View.{items_of}
use Rattle.serde_json.specs.Written.{has_float, members_have_float, items_have_float}
use Rattle.dv_value.specs.Printed.{id_data, values_data}
use Rattle.dv_value.specs.declared.raw.Raw.{Raw}
use Rattle.dv_refusal.specs.declared.refusal.Refusal.{Refusal}
use Rattle.dv_value.proofs.Floats.{either_of, integer-float, put-float, raw-float, values-float}
use Rattle.dv_refusal.proofs.Floats.{refusal_members-float}
use Rattle.dv_value.specs.declared.id.Id.{Id}
use Rattle.dv_request.specs.declared.reply.Change.{Change}
use Rattle.dv_request.specs.declared.reply.Change.TheVariants.{Row, Removed}
use Rattle.dv_request.specs.declared.reply.Share.{Share}
use Rattle.dv_request.specs.declared.reply.Reply.{Reply, map-Reply}
use Rattle.dv_request.specs.declared.reply.Reply.TheOpen.{Reply-F}
use Rattle.dv_request.specs.declared.reply.Reply.TheFolds.{fold-Reply, fold-roll-Reply, ind-Reply}
use Rattle.dv_print.specs.Printed.{share_data, change_data, bool_or_null, number_or_null, text_or_null, with_item, refused_data, reply_step, reply_data}

rows-float : (rows : List (List (List ℕ × Raw))) → items_have_float (items_of (map values_data rows)) ≡ false
rows-float [] = refl
rows-float (row ∷ rows) = either_of _ _ (values-float row) (rows-float rows)

shares-float : (shares : List Share) → items_have_float (items_of (map share_data shares)) ≡ false
unfolding share_data
shares-float [] = refl
shares-float (share ∷ shares) = shares-float shares

change-float : (change : Change) → has_float (change_data change) ≡ false
unfolding change_data
change-float (Row row) = either_of _ _ (values-float row) refl
change-float (Removed id version) = refl

changes-float : (changes : List Change) → items_have_float (items_of (map change_data changes)) ≡ false
changes-float [] = refl
changes-float (change ∷ changes) = either_of _ _ (change-float change) (changes-float changes)

ids-float : (ids : List Id) → items_have_float (items_of (map id_data ids)) ≡ false
ids-float [] = refl
ids-float (id ∷ ids) = ids-float ids

with_item-float : (item : Option ℕ) (ms : Members) → members_have_float ms ≡ false → members_have_float (with_item item ms) ≡ false
with_item-float None ms m = m
with_item-float (Some item) ms m = put-float _ _ ms refl m

refused-float : (refusal : Refusal) (item : Option ℕ) → has_float (refused_data refusal item) ≡ false
unfolding refused_data
refused-float refusal item = either_of _ _ (with_item-float item _ (refusal_members-float refusal)) refl

or_null-flag : (flag : Option Bool) → has_float (bool_or_null flag) ≡ false
or_null-flag None = refl
or_null-flag (Some b) = refl

or_null-number : (n : Option ℕ) → has_float (number_or_null n) ≡ false
or_null-number None = refl
or_null-number (Some n) = refl

or_null-text : (text : Option (List ℕ)) → has_float (text_or_null text) ≡ false
or_null-text None = refl
or_null-text (Some text) = refl

abbrev IsPlain : Reply → Type 0
IsPlain reply = has_float (fold-Reply Data reply_step reply) ≡ false

replies-float : (replies : List ((reply : Reply) × IsPlain reply)) → items_have_float (items_of (map (fold-Reply Data reply_step) (map (λ e. e.0) replies))) ≡ false
replies-float [] = refl
replies-float (reply ∷ replies) = either_of _ _ reply.1 (replies-float replies)

abbrev printed : Reply-F Reply → Data
printed x = reply_step (map-Reply Reply Data (fold-Reply Data reply_step) x)

-- one reply, where those in it have no float
layer-float : (y : Reply-F ((reply : Reply) × IsPlain reply)) → has_float (printed (map-Reply ((reply : Reply) × IsPlain reply) Reply (λ e. e.0) y)) ≡ false
layer-float Reply-F.Done = refl
layer-float (Reply-F.Created id) = refl
layer-float (Reply-F.Found row) = rw (values-float row) refl
layer-float (Reply-F.Rights rights) = refl
layer-float (Reply-F.Shares shares) = rw (shares-float shares) refl
layer-float (Reply-F.Page rows more cookie total over) = rw (rows-float rows, or_null-text cookie, or_null-number total, or_null-flag over) refl
layer-float (Reply-F.Changes changes more token) = rw (changes-float changes) refl
layer-float (Reply-F.Rolled state value) = rw (integer-float state, raw-float value) refl
layer-float (Reply-F.Calculated calculated) = refl
layer-float (Reply-F.Caller user unit teams) = rw (ids-float teams) refl
layer-float (Reply-F.Replies replies) = rw (replies-float replies) refl
layer-float (Reply-F.Refused refusal item) = refused-float refusal item

-- no reply has one
pub reply-float : (reply : Reply) → has_float (reply_data reply) ≡ false
unfolding reply_data
reply-float = ind-Reply IsPlain (λ x y is.
    ap has_float (fold-roll-Reply Data reply_step x) ∙ subst (λ z. has_float (printed z) ≡ false) is (layer-float y))
