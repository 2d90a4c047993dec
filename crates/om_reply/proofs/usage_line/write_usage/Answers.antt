use Rattle.om_reply.proofs.usage_line.write_usage.Goals as goal

pub write_text-requires-clause-status : goal.write_text-requires-clause-status
write_text-requires-clause-status g c = tt
