use Rattle.nbt_node.proofs.node.Node.take_request.Goals as goal

pub returns : goal.returns
returns g c = (c.list_names.ensures.0, λ from. rw c.in-StatusRequest.is c.list_names.ensures.1, c.list_names.ensures.2)
