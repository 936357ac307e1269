-- Where nothing is said, nothing is added.
use Rattle.listening.specs.Listens.{adds_none}
use Rattle.listening.proofs.listener.put_said.Goals as goal

pub returns-in-None : goal.returns-in-None
returns-in-None c = rw c.in-None.is (adds_none 50 _ c.requires)
