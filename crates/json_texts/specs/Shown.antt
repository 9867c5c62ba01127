-- The members of an object that is on its way.
use Rattle.serde_json.specs.Data.{Members}
use Rattle.serde_json.specs.View.{members_view}
use Rattle.json_texts.specs.declared.object.Object.{Object}

abbrev pub shown : Object → Members
shown o = members_view o.members.entries
