use Rattle.run.proofs.EntityVerdict.{entity_near}
use Rattle.run.proofs.check.check_entity.Goals as goal

pub returns-clause-near : goal.returns-clause-near
returns-clause-near c = entity_near c.args.run.now c.entity_parts.result c.entity_parts.ensures
