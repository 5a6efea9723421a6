use Rattle.std.proofs.Common.{sym, ◌∙◌}
use Rattle.dv_refusal.specs.declared.refusal.Refusal.TheVariants.{NotBuilt}
use Rattle.dv_service.proofs.Served.{Tells-refused, Tells-weaker, ServedIf-memory, ServedIf-later, ServedIf-asked}
use Rattle.dv_service.proofs.serving.serve_request.Goals as goal

pub returns-then-is_served : goal.returns-then-is_served
returns-then-is_served g c = Tells-weaker _ _ _ c.ask.result
    (λ reply. ServedIf-asked _ _ _ _ _ reply _ _ (sym c.is_served.ensures ∙ c.if-is_served.true)) c.ask.ensures

pub returns-else-is_served : goal.returns-else-is_served
returns-else-is_served g c = Tells-refused _ _ c.refuse.result NotBuilt c.refuse.ensures.line c.refuse.ensures.memory
    (ServedIf-later _ _ _ _ _ (sym c.is_served.ensures ∙ c.if-is_served.false)) (ServedIf-memory _ _ _ _ _)
