use Rattle.agree_laws.proofs.JointLaws.{joint_agrees}
use Rattle.agree_laws.proofs.joint_tables_agree.Goals as goal

pub returns : goal.returns
returns c = joint_agrees
