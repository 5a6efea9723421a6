-- A request is made of its members and of the requests in it.
use Rattle.std.proofs.Common.{◌≡◌, List, map, codes, sym, ◌∙◌}
use Rattle.serde_json.specs.Data.{Data}
use Rattle.dv_request.specs.declared.request.Request.{Request}
use Rattle.dv_wire.specs.declared.verb.Verb.{Verb}
use Rattle.dv_wire.specs.Members.{list_at}
use Rattle.dv_wire.specs.Requests.{verb_at, request_for, request_step, request_of}
use Rattle.dv_wire.proofs.DeepLaws.{deep-step}

pub request_made : (d : Data) (request : Request) (verb : Verb) (requests : List Request) → request ≡ request_for verb d requests → verb ≡ verb_at d
    → requests ≡ map request_of (list_at (codes "requests") d) → request ≡ request_of d
unfolding request_of request_step
request_made d request verb requests e f g = e ∙ rw (f, g) (sym (deep-step request_step d))
