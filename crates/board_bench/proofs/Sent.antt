-- Evidence may go to another thread.
use denote.Param.Send.{IsSend, IsSync, sendable}
use Rattle.std.proofs.Crossing.{crosses}
use Rattle.inv_cert.specs.contracts.certificate.Certificate as Certificate
use Rattle.inv_cert.specs.contracts.evidence.Evidence as Evidence
use Rattle.inv_cert.specs.contracts.kept_set.KeptSet as KeptSet

kept_set_send : IsSend (KeptSet.the_field).row
kept_set_send = search (sendable, crosses) depth 40 fits 4000

kept_set_sync : IsSync (KeptSet.the_field).row
kept_set_sync = search (sendable, crosses) depth 40 fits 4000

certificate_send : IsSend (Certificate.the_field).row
certificate_send = search (sendable, crosses, kept_set_send, kept_set_sync) depth 40 fits 4000

pub evidence_send : IsSend (Evidence.the_field).row
evidence_send = search (sendable, crosses, certificate_send) depth 40 fits 4000
