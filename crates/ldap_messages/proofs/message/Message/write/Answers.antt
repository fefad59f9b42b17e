use Rattle.ldap_messages.specs.Whole.{message_value}
use Rattle.ldap_messages.proofs.MessageSpellings.{message_spelled, message_read_again}
use Rattle.ldap_messages.proofs.message.Message.write.Goals as goal

pub returns-clause-spelled : goal.returns-clause-spelled
returns-clause-spelled c =
    message_spelled c.spelling.result (message_value c.args.self.now) c.requires c.spelling.ensures.canonical c.spelling.ensures.small c.spelling.ensures.held

pub returns-clause-read_again : goal.returns-clause-read_again
returns-clause-read_again c =
    message_read_again c.spelling.result (message_value c.args.self.now) c.requires c.spelling.ensures.canonical c.spelling.ensures.small c.spelling.ensures.held
