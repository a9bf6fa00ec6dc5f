use Rattle.mss_command.proofs.Asked.{no_bytes, wanted_cause}
use Rattle.mss_command.proofs.question.fetch_wanted.Goals as goal

pub returns-in-Some-clause-contents : goal.returns-in-Some-clause-contents
returns-in-Some-clause-contents g c = rw c.in-Some.is c.fetch.ensures.contents

pub returns-in-Some-clause-cause : goal.returns-in-Some-clause-cause
returns-in-Some-clause-cause g c = λ failed. rw c.in-Some.is (wanted_cause _ _ c.in-Some.name.now c.args.limit _ (c.fetch.ensures.cause failed))

pub returns-in-None-clause-contents : goal.returns-in-None-clause-contents
returns-in-None-clause-contents g c = rw c.in-None.is (no_bytes _ c.args.limit _ c.new.ensures.items)

pub returns-in-None-clause-cause : goal.returns-in-None-clause-cause
returns-in-None-clause-cause g c = λ failed. absurd (cc)
