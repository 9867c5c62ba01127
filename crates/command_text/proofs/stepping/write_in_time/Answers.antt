use Rattle.command_text.proofs.stepping.write_in_time.Goals as goal

pub returns-in-Picture : goal.returns-in-Picture
returns-in-Picture g c = record { told = c.write_as_picture.ensures.told c.args.on }

pub returns-in-Flow : goal.returns-in-Flow
returns-in-Flow g c = record { told = c.write_as_flow.ensures.told c.args.on }

pub returns-in-Page : goal.returns-in-Page
returns-in-Page g c = record { told = c.write_as_page.ensures.told c.args.on }
