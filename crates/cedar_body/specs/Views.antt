-- A body as callers see it.
use Rattle.cedar_body.specs.Bodies.{BodyParts}
use Rattle.cedar_body.specs.declared.body.TemplateBody.{TemplateBody}
use Rattle.cedar_body.specs.declared.body.TemplateBody.TheVariants as bodies

-- The parts of a body.
abbrev pub body_of : TemplateBody → BodyParts
body_of (bodies.TemplateBody b) = b
